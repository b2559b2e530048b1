use Rattle.pyc_expr_forms.specs.CallValues.{reveal_part}
use Rattle.pyc_obligations.proofs.Steps.{performing}
use Rattle.std.proofs.Common.{arith, rules}
use Rattle.pyc_expr_forms.proofs.revealing.reveal_part.Goals as goal

pub returns-in_err-ty : goal.returns-in_err-ty
unfolding reveal_part
returns-in_err-ty g c = first_of (grind (arith, performing), search rules)

pub returns : goal.returns
unfolding reveal_part
returns g c = first_of (grind (arith, performing), search rules)
