use Rattle.std.proofs.Common.{arith, rules}
use Rattle.std.proofs.lemmas.Grind.{common_steps}
use Rattle.pyc_places.specs.Places.{place_of}
use Rattle.pyc_places.proofs.places.+place_of.Goals as goal

pub returns-in_err-below-in-Attribute : goal.returns-in_err-below-in-Attribute
unfolding place_of
returns-in_err-below-in-Attribute t c = first_of (grind (arith, common_steps), search rules)

pub returns-in_err-name_place-in-Name : goal.returns-in_err-name_place-in-Name
unfolding place_of
returns-in_err-name_place-in-Name t c = first_of (grind (arith, common_steps), search rules)

pub returns-in_err-owner-in-Attribute : goal.returns-in_err-owner-in-Attribute
unfolding place_of
returns-in_err-owner-in-Attribute t c = first_of (grind (arith, common_steps), search rules)
