use Rattle.pyc_subscripts.proofs.Steps.{performing}
use Rattle.std.proofs.Common.{arith, rules}
use Rattle.pyc_subscripts.proofs.iterating.item_part.Goals as goal

pub returns : goal.returns
returns g c = first_of (grind (arith, performing), search rules)

pub returns-in-Builtin : goal.returns-in-Builtin
returns-in-Builtin g c = first_of (grind (arith, performing), search rules)
