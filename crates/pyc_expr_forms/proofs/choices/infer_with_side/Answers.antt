use Rattle.pyc_expr_forms.specs.Choices.{infer_with_side}
use Rattle.pyc_obligations.proofs.Steps.{performing}
use Rattle.std.proofs.Common.{arith, rules}
use Rattle.pyc_expr_forms.proofs.choices.infer_with_side.Goals as goal

pub returns-in_err-right : goal.returns-in_err-right
unfolding infer_with_side
returns-in_err-right g c = first_of (grind (arith, performing), search rules)

pub returns : goal.returns
unfolding infer_with_side
returns g c = first_of (grind (arith, performing), search rules)
