use Rattle.std.proofs.Common.{arith, rules}
use Rattle.std.proofs.lemmas.Grind.{common_steps}
use Rattle.pyc_places.proofs.narrowings.without_place.Goals as goal

pub loop-narrowing-init : goal.loop-narrowing-init
loop-narrowing-init c = first_of (grind (arith, common_steps), search rules)

pub returns : goal.returns
returns c = first_of (grind (arith, common_steps), search rules)

pub returns-in_err-clone : goal.returns-in_err-clone
returns-in_err-clone c = first_of (grind (arith, common_steps), search rules)

pub returns-in_err-push : goal.returns-in_err-push
returns-in_err-push c = first_of (grind (arith, common_steps), search rules)
