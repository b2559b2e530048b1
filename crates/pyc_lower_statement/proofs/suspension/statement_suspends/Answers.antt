use Rattle.pyc_lower_statement.proofs.SuspensionLemmas.{suspensions}
use Rattle.std.proofs.Common.{arith, rules}
use Rattle.pyc_lower_statement.proofs.suspension.statement_suspends.Goals as goal

pub returns-else-perhaps_suspends : goal.returns-else-perhaps_suspends
returns-else-perhaps_suspends c = first_of (grind (arith, suspensions), search rules)

pub returns-else-suspends-2 : goal.returns-else-suspends-2
returns-else-suspends-2 c = first_of (grind (arith, suspensions), search rules)

pub returns-else-suspends-3 : goal.returns-else-suspends-3
returns-else-suspends-3 c = first_of (grind (arith, suspensions), search rules)

pub returns-else-suspends-4 : goal.returns-else-suspends-4
returns-else-suspends-4 c = first_of (grind (arith, suspensions), search rules)

pub returns-else-targets_suspend : goal.returns-else-targets_suspend
returns-else-targets_suspend c = first_of (grind (arith, suspensions), search rules)

pub returns-in-Declare : goal.returns-in-Declare
returns-in-Declare c = first_of (grind (arith, suspensions), search rules)

pub returns-in-Delete : goal.returns-in-Delete
returns-in-Delete c = first_of (grind (arith, suspensions), search rules)

pub returns-in-Expression : goal.returns-in-Expression
returns-in-Expression c = first_of (grind (arith, suspensions), search rules)

pub returns-in-Import : goal.returns-in-Import
returns-in-Import c = first_of (grind (arith, suspensions), search rules)

pub returns-in-ImportFrom : goal.returns-in-ImportFrom
returns-in-ImportFrom c = first_of (grind (arith, suspensions), search rules)

pub returns-in-Return : goal.returns-in-Return
returns-in-Return c = first_of (grind (arith, suspensions), search rules)

pub returns-in-Word : goal.returns-in-Word
returns-in-Word c = first_of (grind (arith, suspensions), search rules)

pub returns-then-perhaps_suspends : goal.returns-then-perhaps_suspends
returns-then-perhaps_suspends c = first_of (grind (arith, suspensions), search rules)

pub returns-then-suspends-2 : goal.returns-then-suspends-2
returns-then-suspends-2 c = first_of (grind (arith, suspensions), search rules)

pub returns-then-suspends-3 : goal.returns-then-suspends-3
returns-then-suspends-3 c = first_of (grind (arith, suspensions), search rules)

pub returns-then-suspends-4 : goal.returns-then-suspends-4
returns-then-suspends-4 c = first_of (grind (arith, suspensions), search rules)

pub returns-then-targets_suspend : goal.returns-then-targets_suspend
returns-then-targets_suspend c = first_of (grind (arith, suspensions), search rules)
