use Rattle.std.proofs.Common.{arith, rules}
use Rattle.std.proofs.lemmas.Grind.{common_steps}
use Rattle.pyc_overrides.proofs.places.place_in_parts_at.Goals as goal

pub loop-part-init : goal.loop-part-init
loop-part-init c = first_of (grind (arith, common_steps), search rules)

pub returns : goal.returns
returns c = first_of (grind (arith, common_steps), search rules)

pub returns-in-Some : goal.returns-in-Some
returns-in-Some c = first_of (grind (arith, common_steps), search rules)
