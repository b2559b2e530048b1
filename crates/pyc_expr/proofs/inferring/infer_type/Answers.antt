use Rattle.std.proofs.Common.{arith, rules}
use Rattle.pyc_obligations.proofs.Steps.{performing}
use Rattle.pyc_expr_forms.specs.Contexts.{type_in}
use Rattle.pyc_expr.proofs.inferring.infer_type.Goals as goal

pub returns : goal.returns
unfolding type_in
returns g c = first_of (grind (arith, performing), search rules)

pub returns-in_err-value : goal.returns-in_err-value
unfolding type_in
returns-in_err-value g c = first_of (grind (arith, performing), search rules)
