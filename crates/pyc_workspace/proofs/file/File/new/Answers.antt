use Rattle.std.proofs.Common.{ℕ, List, ap, ◌∙◌}
use Rattle.pyc_units.specs.Units.{unit_count}
use Rattle.pyc_lower.specs.Reading.{read_of}
use Rattle.pyc_names.specs.SourceFileView.{source_in}
use Rattle.pyc_workspace.specs.Workspace.{File}
use Rattle.pyc_workspace.proofs.FileLemmas.{path_is, name_is, source_is}
use Rattle.pyc_workspace.proofs.file.File.new.Goals as goal

pub invariant_of-result-clause-module_is : goal.invariant_of-result-clause-module_is
invariant_of-result-clause-module_is c =
    name_is c.args.path.now c.args.bytes.items _ _ (ap source_in c.in_ok-new.ensures.ok ∙ c.in_ok-source.ensures) (c.in_ok-outcome.ensures ∙ ap read_of c.deref.ensures.value)

pub invariant_of-result-clause-source_is : goal.invariant_of-result-clause-source_is
invariant_of-result-clause-source_is c =
    ∣ source_is c.args.path.now c.args.bytes.items _ _ (ap source_in c.in_ok-new.ensures.ok ∙ c.in_ok-source.ensures) (c.in_ok-outcome.ensures ∙ ap read_of c.deref.ensures.value) ∣₁

pub invariant_of-result-clause-units_is : goal.invariant_of-result-clause-units_is
invariant_of-result-clause-units_is c = c.in_ok-units.ensures ∙ ap unit_count (c.in_ok-outcome.ensures ∙ ap read_of c.deref.ensures.value)

pub returns : goal.returns
returns c =
    let at = path_is c.args.path.now c.args.bytes.items _ _ (ap source_in c.in_ok-new.ensures.ok ∙ c.in_ok-source.ensures) (c.in_ok-outcome.ensures ∙ ap read_of c.deref.ensures.value) in
    let file : List ℕ → File = λ p. record { path = p; bytes = c.args.bytes.items } in
    ap file at
