use Rattle.pyc_subscripts.proofs.Steps.{performing}
use Rattle.std.proofs.Common.{arith, rules}
use Rattle.pyc_subscripts.proofs.indexing.text_item.Goals as goal

pub returns-in-Some-Bytes : goal.returns-in-Some-Bytes
returns-in-Some-Bytes g c = first_of (grind (arith, performing), search rules)

pub returns-in-Some-Str : goal.returns-in-Some-Str
returns-in-Some-Str g c = first_of (grind (arith, performing), search rules)

pub returns-in_default : goal.returns-in_default
returns-in_default g c = first_of (grind (arith, performing), search rules)
