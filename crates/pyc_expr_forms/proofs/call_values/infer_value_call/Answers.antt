use Rattle.pyc_obligations.proofs.Steps.{performing}
use Rattle.std.proofs.Common.{arith, rules}
use Rattle.pyc_expr_forms.proofs.call_values.infer_value_call.Goals as goal

pub returns-in-Fixed-Cast : goal.returns-in-Fixed-Cast
returns-in-Fixed-Cast g c = first_of (grind (arith, performing), search rules)

pub returns-in-Fixed-RevealType : goal.returns-in-Fixed-RevealType
returns-in-Fixed-RevealType g c = first_of (grind (arith, performing), search rules)

pub returns-in-RevealType : goal.returns-in-RevealType
returns-in-RevealType g c = first_of (grind (arith, performing), search rules)

pub returns-in_default : goal.returns-in_default
returns-in_default g c = first_of (grind (arith, performing), search rules)
