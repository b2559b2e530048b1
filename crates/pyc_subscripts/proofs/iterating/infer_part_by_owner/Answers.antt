use Rattle.pyc_subscripts.specs.Iteration.{infer_part_by_owner}
use Rattle.pyc_subscripts.proofs.Steps.{performing}
use Rattle.std.proofs.Common.{arith, rules}
use Rattle.pyc_subscripts.proofs.iterating.infer_part_by_owner.Goals as goal

pub returns-in_err-part : goal.returns-in_err-part
unfolding infer_part_by_owner
returns-in_err-part g c = first_of (grind (arith, performing), search rules)

pub returns : goal.returns
unfolding infer_part_by_owner
returns g c = first_of (grind (arith, performing), search rules)
