use Rattle.pyc_obligations.proofs.Steps.{performing}
use Rattle.std.proofs.Common.{arith, rules}
use Rattle.pyc_assignments.proofs.unpacking.shares_of.Goals as goal

pub returns-else-is_starred : goal.returns-else-is_starred
returns-else-is_starred g c = first_of (grind (arith, performing), search rules)
