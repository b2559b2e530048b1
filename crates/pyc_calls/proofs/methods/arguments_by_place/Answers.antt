use Rattle.std.proofs.Common.{arith, rules}
use Rattle.std.proofs.lemmas.Grind.{common_steps}
use Rattle.pyc_calls.proofs.methods.arguments_by_place.Goals as goal

pub loop-ty-init : goal.loop-ty-init
loop-ty-init c = first_of (grind (arith, common_steps), search rules)

pub returns : goal.returns
returns c = first_of (grind (arith, common_steps), search rules)

pub returns-in_err-arguments : goal.returns-in_err-arguments
returns-in_err-arguments c = first_of (grind (arith, common_steps), search rules)

pub returns-in_err-push_placed : goal.returns-in_err-push_placed
returns-in_err-push_placed c = first_of (grind (arith, common_steps), search rules)
