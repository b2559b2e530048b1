use Rattle.pyc_expr_forms.specs.Operations.{binary_type}
use Rattle.pyc_obligations.proofs.Steps.{performing}
use Rattle.std.proofs.Common.{arith, rules}
use Rattle.pyc_expr_forms.proofs.operations.binary_type.Goals as goal

pub returns-in_err-left : goal.returns-in_err-left
unfolding binary_type
returns-in_err-left g c = first_of (grind (arith, performing), search rules)

pub returns : goal.returns
unfolding binary_type
returns g c = first_of (grind (arith, performing), search rules)
