use Rattle.pyc_expr_forms.specs.Choices.{first_side}
use Rattle.pyc_obligations.proofs.Steps.{performing}
use Rattle.std.proofs.Common.{arith, rules}
use Rattle.pyc_expr_forms.proofs.choices.first_side.Goals as goal

pub returns-in_err-ty : goal.returns-in_err-ty
unfolding first_side
returns-in_err-ty g c = first_of (grind (arith, performing), search rules)

pub returns : goal.returns
unfolding first_side
returns g c = first_of (grind (arith, performing), search rules)
