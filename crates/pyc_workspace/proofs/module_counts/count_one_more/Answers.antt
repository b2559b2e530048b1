use Rattle.std.proofs.Common.{ℕ, ◌+◌, unwrap_or, refl, ap, ◌∙◌}
use Rattle.indexmap.specs.IndexMap.{get}
use Rattle.pyc_names.specs.ModuleName.{same_module}
use Rattle.pyc_names.proofs.RingLemmas.{same_module-is}
use Rattle.pyc_workspace.specs.ModuleCounts.{counts_in}
use Rattle.pyc_workspace.proofs.CountLemmas.{one_more}
use Rattle.pyc_workspace.proofs.module_counts.count_one_more.Goals as goal

pub returns : goal.returns
returns c =
    record {
      after = λ m. ap (λ o. unwrap_or o 0) (c.in_ok-insert.ensures.updates.0 m)
          ∙ one_more (same_module c.args.name m) (get same_module c.args.counts.now m) (c.count_of-count.result + 1)
          (λ same. ap {B = ℕ} (λ n. n + 1) (c.count_of-count.ensures ∙ ap (counts_in c.args.counts.now) (same_module-is c.args.name m same)));
      roomy = λ room. refl;
    }
