use Rattle.pyc_expr_forms.specs.Choices.{arms_type}
use Rattle.pyc_obligations.proofs.Steps.{performing}
use Rattle.std.proofs.Common.{arith, rules}
use Rattle.pyc_expr_forms.proofs.choices.arms_type.Goals as goal

pub returns-in_err-body : goal.returns-in_err-body
unfolding arms_type
returns-in_err-body g c = first_of (grind (arith, performing), search rules)

pub returns : goal.returns
unfolding arms_type
returns g c = first_of (grind (arith, performing), search rules)
