use Rattle.pyc_operators.specs.Binary.{compare_in_order}
use Rattle.pyc_operators.proofs.Steps.{performing}
use Rattle.std.proofs.Common.{arith, rules}
use Rattle.pyc_operators.proofs.binary_operator.BinaryOperands.compare_in_order.Goals as goal

pub returns : goal.returns
unfolding compare_in_order
returns g c = first_of (grind (arith, performing), search rules)

pub returns-in_err-infer_operation : goal.returns-in_err-infer_operation
unfolding compare_in_order
returns-in_err-infer_operation g c = first_of (grind (arith, performing), search rules)
