use Rattle.pyc_attributes.proofs.Steps.{performing}
use Rattle.std.proofs.Common.{arith, rules}
use Rattle.pyc_attributes.proofs.values.UnionAttribute.item_type.Goals as goal

pub returns : goal.returns
returns g c = first_of (grind (arith, performing), search rules)

pub returns-in-Absent : goal.returns-in-Absent
returns-in-Absent g c = first_of (grind (arith, performing), search rules)

pub returns-in-Known : goal.returns-in-Known
returns-in-Known g c = first_of (grind (arith, performing), search rules)

pub returns-in-Member : goal.returns-in-Member
returns-in-Member g c = first_of (grind (arith, performing), search rules)
