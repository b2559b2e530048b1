use Rattle.pyc_annotations.proofs.Steps.{performing}
use Rattle.std.proofs.Common.{arith, rules}
use Rattle.pyc_annotations.proofs.lookup.attribute_of_kind.Goals as goal

pub returns-in-NoName : goal.returns-in-NoName
returns-in-NoName g c = first_of (grind (arith, performing), search rules)

pub returns-in_default : goal.returns-in_default
returns-in_default g c = first_of (grind (arith, performing), search rules)
