use Rattle.std.proofs.Common.{◌≡◌, ◌-◌, get_or, if◌then◌else◌, sym, ap, ap₂, ◌∙◌}
use Rattle.pyc_names.specs.ModuleName.{module_of, same_module}
use Rattle.pyc_workspace.specs.Files.{file_in}
use Rattle.pyc_workspace.specs.ModuleCounts.{name_count}
use Rattle.pyc_workspace.specs.Workspace.{IsPlaceOf, without_file}
use Rattle.pyc_workspace.proofs.CountLemmas.{count-remove}
use Rattle.pyc_workspace.proofs.WorkspaceLemmas.{has_file-place, has_file-gap, without_file-place, without_file-gap}
use Rattle.pyc_workspace.proofs.workspace.Workspace.take.Goals as goal

pub returns-in_default-clause-value : goal.returns-in_default-clause-value
returns-in_default-clause-value c =
    rw (← c.self.view_is) (sym (has_file-gap c.self.inside.held c.args.path.now c.in_default.field-0 c.in_default.ensures.absent))

pub returns-in_default-clause-after : goal.returns-in_default-clause-after
returns-in_default-clause-after c = rw (← c.self.view_is) (without_file-gap c.self.inside.held c.args.path.now c.in_default.field-0 c.in_default.ensures.absent)

pub invariant_of-self : goal.invariant_of-self
invariant_of-self c =
    let files = c.self.inside.held in
    let gone = file_in c.remove-file.result.value in
    let place : IsPlaceOf files c.args.path.now c.in-Ok.at = c.in-Ok.ensures.found in
    let is : gone ≡ get_or files c.in-Ok.at gone = c.remove-file.ensures.value in
    let named = c.module.ensures ∙ ap (λ f. module_of (file_in f).path) c.deref.ensures in
    record {
      ordered = c.remove-file.ensures.ordered;
      counted = λ m. c.count_one_less.ensures m
          ∙ ap₂ (λ n k. n - (if same_module k m then 1 else 0)) (c.self.invariant.counted m) named
          ∙ sym (count-remove files gone m c.in-Ok.at gone place.in_range is) ∙ sym (ap (λ fs. name_count fs m) c.remove-file.ensures.after);
    }

pub returns-clause-value : goal.returns-clause-value
returns-clause-value c = rw (← c.self.view_is) (sym (has_file-place c.self.inside.held c.args.path.now c.in-Ok.at c.in-Ok.ensures.found))

pub returns-clause-after : goal.returns-clause-after
returns-clause-after c =
    c.remove-file.ensures.after ∙ without_file-place c.self.inside.held c.args.path.now c.in-Ok.at c.self.invariant.ordered c.in-Ok.ensures.found
    ∙ ap (λ fs. without_file fs c.args.path.now) c.self.view_is

pub returns-clause-ordered : goal.returns-clause-ordered
returns-clause-ordered c = c.remove-file.ensures.ordered
