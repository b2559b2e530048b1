use Rattle.pyc_expr_forms.specs.CallValues.{infer_attribute_call}
use Rattle.pyc_obligations.proofs.Steps.{performing}
use Rattle.std.proofs.Common.{arith, rules}
use Rattle.pyc_expr_forms.proofs.call_values.infer_attribute_call.Goals as goal

pub returns-in_err-owner : goal.returns-in_err-owner
unfolding infer_attribute_call
returns-in_err-owner g c = first_of (grind (arith, performing), search rules)

pub returns : goal.returns
unfolding infer_attribute_call
returns g c = first_of (grind (arith, performing), search rules)
