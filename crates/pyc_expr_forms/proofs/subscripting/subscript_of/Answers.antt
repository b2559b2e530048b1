use Rattle.pyc_expr_forms.specs.Subscripting.{subscript_of}
use Rattle.pyc_obligations.proofs.Steps.{performing}
use Rattle.std.proofs.Common.{arith, rules}
use Rattle.pyc_expr_forms.proofs.subscripting.subscript_of.Goals as goal

pub returns-in_err-got : goal.returns-in_err-got
unfolding subscript_of
returns-in_err-got g c = first_of (grind (arith, performing), search rules)

pub returns : goal.returns
unfolding subscript_of
returns g c = first_of (grind (arith, performing), search rules)
