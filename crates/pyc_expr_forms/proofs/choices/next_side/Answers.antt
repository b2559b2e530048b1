use Rattle.pyc_expr_forms.specs.Choices.{next_side}
use Rattle.pyc_obligations.proofs.Steps.{performing}
use Rattle.std.proofs.Common.{arith, rules}
use Rattle.pyc_expr_forms.proofs.choices.next_side.Goals as goal

pub returns-in_err-joined : goal.returns-in_err-joined
unfolding next_side
returns-in_err-joined g c = first_of (grind (arith, performing), search rules)

pub returns : goal.returns
unfolding next_side
returns g c = first_of (grind (arith, performing), search rules)
