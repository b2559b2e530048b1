use Rattle.std.proofs.Common.{arith, rules}
use Rattle.std.proofs.lemmas.Grind.{common_steps}
use Rattle.pyc_places.proofs.narrowings.type_at.Goals as goal

pub loop-narrowing-init : goal.loop-narrowing-init
loop-narrowing-init c = first_of (grind (arith, common_steps), search rules)

pub returns : goal.returns
returns c = first_of (grind (arith, common_steps), search rules)

pub returns-then-is_place : goal.returns-then-is_place
returns-then-is_place c = first_of (grind (arith, common_steps), search rules)
