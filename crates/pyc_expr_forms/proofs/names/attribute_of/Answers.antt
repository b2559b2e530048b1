use Rattle.pyc_obligations.proofs.Steps.{performing}
use Rattle.std.proofs.Common.{arith, rules}
use Rattle.pyc_expr_forms.proofs.names.attribute_of.Goals as goal

pub returns-in-None : goal.returns-in-None
returns-in-None g c = first_of (grind (arith, performing), search rules)

pub returns-in-Some : goal.returns-in-Some
returns-in-Some g c = first_of (grind (arith, performing), search rules)
