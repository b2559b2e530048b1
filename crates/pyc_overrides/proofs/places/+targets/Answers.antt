use Rattle.std.proofs.Common.{arith, rules}
use Rattle.std.proofs.lemmas.Grind.{common_steps}
use Rattle.pyc_overrides.proofs.places.+targets.Goals as goal

pub place_in_elements-loop-element-init : goal.place_in_elements-loop-element-init
place_in_elements-loop-element-init t c = first_of (grind (arith, common_steps), search rules)

pub place_in_elements-returns : goal.place_in_elements-returns
place_in_elements-returns t c = first_of (grind (arith, common_steps), search rules)
