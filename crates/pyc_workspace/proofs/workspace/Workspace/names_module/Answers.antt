use Rattle.std.proofs.Common.{◌≡◌, sym, ap, ◌∙◌, arith}
use Rattle.std.specs.Prelude.{nat_lt}
use Rattle.pyc_workspace.specs.ModuleCounts.{name_count}
use Rattle.pyc_workspace.proofs.CountLemmas.{not_taken}
use Rattle.pyc_workspace.proofs.workspace.Workspace.names_module.Goals as goal

pub returns-else-count_of-gt0 : goal.returns-else-count_of-gt0
returns-else-count_of-gt0 c =
    let none : c.count_of.result ≡ 0 = omega arith in
    let counted = c.count_of.ensures ∙ c.self.invariant.counted c.args.name.now ∙ ap (λ files. name_count files c.args.name.now) c.self.view_is in
    ap (nat_lt 0) none ∙ sym (not_taken c.args.self.now c.args.path.now c.args.name.now c.count_of.result (omega arith) counted c.requires)
