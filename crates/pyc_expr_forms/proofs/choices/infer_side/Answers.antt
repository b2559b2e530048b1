use Rattle.pyc_expr_forms.specs.Choices.{infer_side}
use Rattle.pyc_obligations.proofs.Steps.{performing}
use Rattle.std.proofs.Common.{arith, rules}
use Rattle.pyc_expr_forms.proofs.choices.infer_side.Goals as goal

pub returns-in_err-states : goal.returns-in_err-states
unfolding infer_side
returns-in_err-states g c = first_of (grind (arith, performing), search rules)

pub returns : goal.returns
unfolding infer_side
returns g c = first_of (grind (arith, performing), search rules)
