use Rattle.pyc_assignments.specs.Unpacking.{iterated_shares}
use Rattle.pyc_obligations.proofs.Steps.{performing}
use Rattle.std.proofs.Common.{arith, rules}
use Rattle.pyc_assignments.proofs.unpacking.iterated_shares.Goals as goal

pub returns-in_err-item : goal.returns-in_err-item
unfolding iterated_shares
returns-in_err-item g c = first_of (grind (arith, performing), search rules)

pub returns : goal.returns
unfolding iterated_shares
returns g c = first_of (grind (arith, performing), search rules)
