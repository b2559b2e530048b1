use Rattle.std.proofs.Common.{arith, rules}
use Rattle.std.proofs.lemmas.Grind.{common_steps}
use Rattle.pyc_places.proofs.joining.join.Goals as goal

pub returns-in-Unreachable-default : goal.returns-in-Unreachable-default
returns-in-Unreachable-default c = first_of (grind (arith, common_steps), search rules)

pub returns-in_default-Unreachable : goal.returns-in_default-Unreachable
returns-in_default-Unreachable c = first_of (grind (arith, common_steps), search rules)

pub returns-in_err-joined-in-Reachable-Reachable : goal.returns-in_err-joined-in-Reachable-Reachable
returns-in_err-joined-in-Reachable-Reachable c = first_of (grind (arith, common_steps), search rules)

pub returns-in_ok-joined-in-Reachable-Reachable : goal.returns-in_ok-joined-in-Reachable-Reachable
returns-in_ok-joined-in-Reachable-Reachable c = first_of (grind (arith, common_steps), search rules)
