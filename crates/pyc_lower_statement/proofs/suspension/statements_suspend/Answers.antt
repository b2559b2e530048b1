use Rattle.pyc_lower_statement.proofs.SuspensionLemmas.{suspensions}
use Rattle.std.proofs.Common.{arith, rules}
use Rattle.std.proofs.lemmas.Grind.{common_steps}
use Rattle.pyc_lower_statement.proofs.suspension.statements_suspend.Goals as goal

pub loop-item-init : goal.loop-item-init
loop-item-init c = first_of (grind (arith, suspensions), search rules)

pub returns-in-None : goal.returns-in-None
returns-in-None c = first_of (grind (arith, common_steps, suspensions), search rules)

pub returns-in-Some : goal.returns-in-Some
returns-in-Some c = first_of (grind (arith, common_steps, suspensions), search rules)

pub returns-then-statement_suspends : goal.returns-then-statement_suspends
returns-then-statement_suspends c = first_of (grind (arith, common_steps, suspensions), search rules)
