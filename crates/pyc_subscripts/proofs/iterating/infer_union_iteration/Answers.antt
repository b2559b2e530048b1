use Rattle.pyc_subscripts.specs.Iteration.{infer_union_iteration}
use Rattle.pyc_subscripts.proofs.Steps.{performing}
use Rattle.std.proofs.Common.{arith, rules}
use Rattle.pyc_subscripts.proofs.iterating.infer_union_iteration.Goals as goal

pub returns-in_err-items : goal.returns-in_err-items
unfolding infer_union_iteration
returns-in_err-items g c = first_of (grind (arith, performing), search rules)

pub returns-in_err-found : goal.returns-in_err-found
unfolding infer_union_iteration
returns-in_err-found g c = first_of (grind (arith, performing), search rules)

pub returns : goal.returns
unfolding infer_union_iteration
returns g c = first_of (grind (arith, performing), search rules)
