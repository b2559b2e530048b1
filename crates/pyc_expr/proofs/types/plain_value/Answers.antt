use Rattle.std.proofs.Common.{arith, rules}
use Rattle.pyc_obligations.proofs.Steps.{performing}
use Rattle.pyc_expr_forms.specs.Contexts.{plainly}
use Rattle.pyc_expr.proofs.types.plain_value.Goals as goal

pub returns : goal.returns
unfolding plainly
returns g c = first_of (grind (arith, performing), search rules)

pub returns-in_err-ty : goal.returns-in_err-ty
unfolding plainly
returns-in_err-ty g c = first_of (grind (arith, performing), search rules)
