use Rattle.std.proofs.Common.{arith, rules}
use Rattle.std.proofs.lemmas.Grind.{common_steps}
use Rattle.pyc_places.proofs.places.are_the_affected.Goals as goal

pub returns-in-len1 : goal.returns-in-len1
returns-in-len1 c = first_of (grind (arith, common_steps), search rules)

pub returns-in_default : goal.returns-in_default
returns-in_default c = first_of (grind (arith, common_steps), search rules)

pub returns-in_default-2 : goal.returns-in_default-2
returns-in_default-2 c = first_of (grind (arith, common_steps), search rules)
