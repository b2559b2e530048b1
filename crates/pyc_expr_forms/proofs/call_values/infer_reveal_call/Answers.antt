use Rattle.pyc_obligations.proofs.Steps.{performing}
use Rattle.std.proofs.Common.{arith, rules}
use Rattle.std.proofs.lemmas.Grind.{common_steps}
use Rattle.pyc_expr_forms.proofs.call_values.infer_reveal_call.Goals as goal

pub returns-in-len1 : goal.returns-in-len1
returns-in-len1 g c = first_of (grind (arith, common_steps, performing), search rules)

pub returns-in_default : goal.returns-in_default
returns-in_default g c = first_of (grind (arith, common_steps, performing), search rules)
