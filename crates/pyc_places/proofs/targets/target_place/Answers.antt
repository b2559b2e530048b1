use Rattle.std.proofs.Common.{arith, rules}
use Rattle.std.proofs.lemmas.Grind.{common_steps}
use Rattle.pyc_places.proofs.targets.target_place.Goals as goal

pub returns-in_err-below-in-Attribute : goal.returns-in_err-below-in-Attribute
returns-in_err-below-in-Attribute c = first_of (grind (arith, common_steps), search rules)

pub returns-in_err-name_place-in-Name : goal.returns-in_err-name_place-in-Name
returns-in_err-name_place-in-Name c = first_of (grind (arith, common_steps), search rules)

pub returns-in_err-owner-in-Attribute : goal.returns-in_err-owner-in-Attribute
returns-in_err-owner-in-Attribute c = first_of (grind (arith, common_steps), search rules)
