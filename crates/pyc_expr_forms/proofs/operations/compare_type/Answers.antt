use Rattle.pyc_expr_forms.specs.Operations.{compare_type}
use Rattle.pyc_obligations.proofs.Steps.{performing}
use Rattle.std.proofs.Common.{arith, rules}
use Rattle.pyc_expr_forms.proofs.operations.compare_type.Goals as goal

pub returns-in_err-left : goal.returns-in_err-left
unfolding compare_type
returns-in_err-left g c = first_of (grind (arith, performing), search rules)

pub returns : goal.returns
unfolding compare_type
returns g c = first_of (grind (arith, performing), search rules)
