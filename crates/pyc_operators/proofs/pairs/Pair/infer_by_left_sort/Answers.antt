use Rattle.pyc_operators.specs.Pairs.{infer_by_left_sort}
use Rattle.pyc_operators.proofs.Steps.{performing}
use Rattle.std.proofs.Common.{arith, rules}
use Rattle.pyc_operators.proofs.pairs.Pair.infer_by_left_sort.Goals as goal

pub returns : goal.returns
unfolding infer_by_left_sort
returns g c = first_of (grind (arith, performing), search rules)

pub returns-in_err-right_sort : goal.returns-in_err-right_sort
unfolding infer_by_left_sort
returns-in_err-right_sort g c = first_of (grind (arith, performing), search rules)
