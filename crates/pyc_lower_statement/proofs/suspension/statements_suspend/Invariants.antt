use Rattle.std.proofs.Common.{◌≡◌, drop}
use Rattle.pyc_lower_statement.specs.Suspends.{separated_suspend}
use Rattle.pyc_tree.specs.StatementView.{separated_before, last_item_of, separated_of, statement_of}
use Rattle.pyc_lower_statement.proofs.suspension.statements_suspend.Given as goal

-- what is left suspends where all statements do
abbrev pub invariant-loop-item : goal.invariant-loop-item
invariant-loop-item l =
    separated_suspend (separated_before statement_of (drop l.item-index l.item-items) (last_item_of statement_of l.statements.last))
    ≡ separated_suspend (separated_of statement_of l.statements)
