use Rattle.pyc_expr_forms.specs.Operations.{unary_type}
use Rattle.pyc_obligations.proofs.Steps.{performing}
use Rattle.std.proofs.Common.{arith, rules}
use Rattle.pyc_expr_forms.proofs.operations.unary_type.Goals as goal

pub returns-in_err-operand : goal.returns-in_err-operand
unfolding unary_type
returns-in_err-operand g c = first_of (grind (arith, performing), search rules)

pub returns : goal.returns
unfolding unary_type
returns g c = first_of (grind (arith, performing), search rules)
