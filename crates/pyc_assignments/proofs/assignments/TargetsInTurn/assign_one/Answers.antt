use Rattle.pyc_obligations.proofs.Steps.{performing}
use Rattle.std.proofs.Common.{arith, rules}
use Rattle.pyc_assignments.proofs.assignments.TargetsInTurn.assign_one.Goals as goal

pub returns-else-is_first : goal.returns-else-is_first
returns-else-is_first g c = first_of (grind (arith, performing), search rules)

pub returns-then-is_first : goal.returns-then-is_first
returns-then-is_first g c = first_of (grind (arith, performing), search rules)
