use Rattle.std.proofs.Common.{◌≡◌, drop, map}
use Rattle.std.specs.List.{list_any}
use Rattle.pyc_lower_statement.specs.Suspends.{suspends}
use Rattle.pyc_tree.specs.StatementView.{assigned_of}
use Rattle.pyc_lower_statement.proofs.suspension.targets_suspend.Given as goal

-- what is left suspends where all targets do
abbrev pub invariant-loop-assigned : goal.invariant-loop-assigned
invariant-loop-assigned l =
    list_any (λ found. suspends found.target) (map assigned_of (drop l.assigned-index l.targets)) ≡ list_any (λ found. suspends found.target) (map assigned_of l.targets)
