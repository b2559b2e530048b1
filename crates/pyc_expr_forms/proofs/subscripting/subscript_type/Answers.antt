use Rattle.pyc_expr_forms.specs.Subscripting.{subscript_type}
use Rattle.pyc_obligations.proofs.Steps.{performing}
use Rattle.std.proofs.Common.{arith, rules}
use Rattle.pyc_expr_forms.proofs.subscripting.subscript_type.Goals as goal

pub returns-in_err-owner : goal.returns-in_err-owner
unfolding subscript_type
returns-in_err-owner g c = first_of (grind (arith, performing), search rules)

pub returns : goal.returns
unfolding subscript_type
returns g c = first_of (grind (arith, performing), search rules)
