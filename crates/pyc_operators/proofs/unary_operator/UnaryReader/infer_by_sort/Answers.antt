use Rattle.pyc_operators.specs.Unary.{infer_by_sort}
use Rattle.pyc_operators.proofs.Steps.{performing}
use Rattle.std.proofs.Common.{arith, rules}
use Rattle.pyc_operators.proofs.unary_operator.UnaryReader.infer_by_sort.Goals as goal

pub returns : goal.returns
unfolding infer_by_sort
returns g c = first_of (grind (arith, performing), search rules)

pub returns-in_err-method : goal.returns-in_err-method
unfolding infer_by_sort
returns-in_err-method g c = first_of (grind (arith, performing), search rules)
