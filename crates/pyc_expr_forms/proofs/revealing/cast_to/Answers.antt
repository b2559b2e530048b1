use Rattle.pyc_expr_forms.specs.CallValues.{cast_to}
use Rattle.pyc_obligations.proofs.Steps.{performing}
use Rattle.std.proofs.Common.{arith, rules}
use Rattle.pyc_expr_forms.proofs.revealing.cast_to.Goals as goal

pub returns-in_err-ty : goal.returns-in_err-ty
unfolding cast_to
returns-in_err-ty g c = first_of (grind (arith, performing), search rules)

pub returns-in_err-infer_freely : goal.returns-in_err-infer_freely
unfolding cast_to
returns-in_err-infer_freely g c = first_of (grind (arith, performing), search rules)

pub returns : goal.returns
unfolding cast_to
returns g c = first_of (grind (arith, performing), search rules)
