use Rattle.pyc_obligations.proofs.Steps.{performing}
use Rattle.std.proofs.Common.{arith, rules}
use Rattle.std.proofs.lemmas.Grind.{common_steps}
use Rattle.pyc_expr_forms.proofs.call_values.cast_by.Goals as goal

pub returns-in-len2 : goal.returns-in-len2
returns-in-len2 g c = first_of (grind (arith, common_steps, performing), search rules)

pub returns-in_default : goal.returns-in_default
returns-in_default g c = first_of (grind (arith, common_steps, performing), search rules)
