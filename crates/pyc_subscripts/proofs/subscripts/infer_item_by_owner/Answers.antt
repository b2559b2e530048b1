use Rattle.pyc_subscripts.proofs.Steps.{performing}
use Rattle.std.proofs.Common.{arith, rules}
use Rattle.pyc_subscripts.proofs.subscripts.infer_item_by_owner.Goals as goal

pub returns-in-Builtin : goal.returns-in-Builtin
returns-in-Builtin g c = first_of (grind (arith, performing), search rules)

pub returns-in-Method : goal.returns-in-Method
returns-in-Method g c = first_of (grind (arith, performing), search rules)

pub returns-in-Nothing : goal.returns-in-Nothing
returns-in-Nothing g c = first_of (grind (arith, performing), search rules)
