use Rattle.pyc_operators.specs.Binary.{infer_operation}
use Rattle.pyc_operators.proofs.Steps.{performing}
use Rattle.std.proofs.Common.{arith, rules}
use Rattle.pyc_operators.proofs.binary_operator.BinaryOperands.infer_operation.Goals as goal

pub returns : goal.returns
unfolding infer_operation
returns g c = first_of (grind (arith, performing), search rules)

pub returns-in_err-results : goal.returns-in_err-results
unfolding infer_operation
returns-in_err-results g c = first_of (grind (arith, performing), search rules)
