use Rattle.pyc_assignments.specs.Storing.{assignment_required}
use Rattle.pyc_obligations.proofs.Steps.{performing}
use Rattle.std.proofs.Common.{arith, rules}
use Rattle.pyc_assignments.proofs.storing.assignment_required.Goals as goal

pub returns : goal.returns
unfolding assignment_required
returns g c = first_of (grind (arith, performing), search rules)
