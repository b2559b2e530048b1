use Rattle.pyc_expr_forms.specs.Operations.{infer_with_right}
use Rattle.pyc_obligations.proofs.Steps.{performing}
use Rattle.std.proofs.Common.{arith, rules}
use Rattle.pyc_expr_forms.proofs.operations.infer_with_right.Goals as goal

pub returns-in_err-right : goal.returns-in_err-right
unfolding infer_with_right
returns-in_err-right g c = first_of (grind (arith, performing), search rules)

pub returns : goal.returns
unfolding infer_with_right
returns g c = first_of (grind (arith, performing), search rules)
