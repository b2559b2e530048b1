use Rattle.pyc_subscripts.specs.Iteration.{infer_single_iteration}
use Rattle.pyc_subscripts.proofs.Steps.{performing}
use Rattle.std.proofs.Common.{arith, rules}
use Rattle.pyc_subscripts.proofs.iterating.infer_single_iteration.Goals as goal

pub returns-in_err-owner : goal.returns-in_err-owner
unfolding infer_single_iteration
returns-in_err-owner g c = first_of (grind (arith, performing), search rules)

pub returns : goal.returns
unfolding infer_single_iteration
returns g c = first_of (grind (arith, performing), search rules)
