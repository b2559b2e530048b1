use Rattle.std.proofs.Common.{unwrap_or, sym, ap, ◌∙◌}
use Rattle.std.specs.Map.{lookup}
use Rattle.pyc_names.specs.ModuleName.{same_module}
use Rattle.pyc_workspace.specs.ModuleCounts.{name_count}
use Rattle.pyc_workspace.proofs.CountLemmas.{no_name}
use Rattle.pyc_workspace.proofs.WorkspaceLemmas.{in_order_none}
use Rattle.pyc_workspace.proofs.workspace.Workspace.new.Goals as goal

pub invariant_of-result : goal.invariant_of-result
invariant_of-result c =
    record {
      ordered = rw c.new.ensures in_order_none;
      counted = λ m. ap (λ es. unwrap_or (lookup (same_module m) es) 0) c.new-2.ensures.empty ∙ sym (ap (λ files. name_count files m) c.new.ensures ∙ no_name m);
    }
