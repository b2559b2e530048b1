use Rattle.pyc_expr_forms.specs.Choices.{boolean_type}
use Rattle.pyc_obligations.proofs.Steps.{performing}
use Rattle.std.proofs.Common.{arith, rules}
use Rattle.pyc_expr_forms.proofs.choices.boolean_type.Goals as goal

pub returns-in_err-left : goal.returns-in_err-left
unfolding boolean_type
returns-in_err-left g c = first_of (grind (arith, performing), search rules)

pub returns : goal.returns
unfolding boolean_type
returns g c = first_of (grind (arith, performing), search rules)
