use Rattle.std.proofs.Common.{arith, rules}
use Rattle.std.proofs.lemmas.Grind.{common_steps}
use Rattle.pyc_targets.proofs.attribute_targets.AttributeTarget.found_want.Goals as goal

pub returns-in-Absent : goal.returns-in-Absent
returns-in-Absent g c = first_of (grind (arith, common_steps), search rules)

pub returns-in-Known : goal.returns-in-Known
returns-in-Known g c = first_of (grind (arith, common_steps), search rules)

pub returns-in-Member : goal.returns-in-Member
returns-in-Member g c = first_of (grind (arith, common_steps), search rules)

pub returns-in-Name : goal.returns-in-Name
returns-in-Name g c = first_of (grind (arith, common_steps), search rules)
