use Rattle.pyc_obligations.proofs.Steps.{performing}
use Rattle.std.proofs.Common.{arith, rules}
use Rattle.pyc_assignments.proofs.storing.renarrow.Goals as goal

pub returns : goal.returns
returns g c = first_of (grind (arith, performing), search rules)

pub returns-in_err-place : goal.returns-in_err-place
returns-in_err-place g c = first_of (grind (arith, performing), search rules)
