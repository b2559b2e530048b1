use Rattle.pyc_subscripts.specs.Iteration.{union_part}
use Rattle.pyc_subscripts.proofs.Steps.{performing}
use Rattle.std.proofs.Common.{arith, rules}
use Rattle.pyc_subscripts.proofs.iterating.union_part.Goals as goal

pub returns-in_err-owner : goal.returns-in_err-owner
unfolding union_part
returns-in_err-owner g c = first_of (grind (arith, performing), search rules)

pub returns : goal.returns
unfolding union_part
returns g c = first_of (grind (arith, performing), search rules)
