use Rattle.std.proofs.Common.{◌-◌, rules, unwrap_or, ap, ◌∙◌}
use Rattle.indexmap.specs.IndexMap.{get}
use Rattle.pyc_names.specs.ModuleName.{same_module}
use Rattle.pyc_names.proofs.RingLemmas.{same_module-is}
use Rattle.pyc_workspace.specs.ModuleCounts.{counts_in}
use Rattle.pyc_workspace.proofs.CountLemmas.{none_left, one_less}
use Rattle.pyc_workspace.proofs.module_counts.count_one_less.Goals as goal

pub returns-then-count-le1 : goal.returns-then-count-le1
returns-then-count-le1 c =
    λ m. ap (λ o. unwrap_or o 0) (c.swap_remove.ensures.updates.0 m)
    ∙ none_left (same_module c.args.name.now m) (get same_module c.args.counts.now m) c.count_of-count.result c.if-count-le1.true
    (λ same. c.count_of-count.ensures ∙ ap (counts_in c.args.counts.now) (same_module-is c.args.name.now m same))

pub returns-in-Some : goal.returns-in-Some
returns-in-Some c =
    let written = (c.get_mut.follows.holds (c.count_of-count.result - 1)).3 (search rules) in
    λ m. ap (λ o. unwrap_or o 0) (written.0 m)
    ∙ one_less (same_module c.args.name.now m) (get same_module c.args.counts.now m) c.count_of-count.result
    (λ same. c.count_of-count.ensures ∙ ap (counts_in c.args.counts.now) (same_module-is c.args.name.now m same))
