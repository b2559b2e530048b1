use Rattle.pyc_lower_statement.proofs.SuspensionLemmas.{suspensions}
use Rattle.std.proofs.Common.{arith, rules}
use Rattle.std.proofs.lemmas.Grind.{common_steps}
use Rattle.pyc_lower_statement.proofs.suspension.targets_suspend.Goals as goal

pub loop-assigned-init : goal.loop-assigned-init
loop-assigned-init c = first_of (grind (arith, suspensions), search rules)

pub returns : goal.returns
returns c = first_of (grind (arith, common_steps, suspensions), search rules)

pub returns-then-suspends : goal.returns-then-suspends
returns-then-suspends c = first_of (grind (arith, common_steps, suspensions), search rules)
