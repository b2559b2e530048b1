use Rattle.pyc_assignments.specs.Storing.{narrow_if_assignable}
use Rattle.pyc_obligations.proofs.Steps.{performing}
use Rattle.std.proofs.Common.{arith, rules}
use Rattle.pyc_assignments.proofs.storing.narrow_if_assignable.Goals as goal

pub returns-in_err-goes : goal.returns-in_err-goes
unfolding narrow_if_assignable
returns-in_err-goes g c = first_of (grind (arith, performing), search rules)

pub returns : goal.returns
unfolding narrow_if_assignable
returns g c = first_of (grind (arith, performing), search rules)
