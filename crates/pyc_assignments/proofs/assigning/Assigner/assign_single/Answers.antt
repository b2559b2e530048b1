use Rattle.pyc_assignments.specs.Assignments.{assign_single}
use Rattle.pyc_obligations.proofs.Steps.{performing}
use Rattle.std.proofs.Common.{arith, rules}
use Rattle.pyc_assignments.proofs.assigning.Assigner.assign_single.Goals as goal

pub returns-in_err-found : goal.returns-in_err-found
unfolding assign_single
returns-in_err-found g c = first_of (grind (arith, performing), search rules)

pub returns : goal.returns
unfolding assign_single
returns g c = first_of (grind (arith, performing), search rules)
