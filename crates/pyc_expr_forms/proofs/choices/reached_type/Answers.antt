use Rattle.pyc_expr_forms.specs.Choices.{reached_type}
use Rattle.pyc_obligations.proofs.Steps.{performing}
use Rattle.std.proofs.Common.{arith, rules}
use Rattle.pyc_expr_forms.proofs.choices.reached_type.Goals as goal

pub returns-in_err-ty : goal.returns-in_err-ty
unfolding reached_type
returns-in_err-ty g c = first_of (grind (arith, performing), search rules)

pub returns : goal.returns
unfolding reached_type
returns g c = first_of (grind (arith, performing), search rules)
