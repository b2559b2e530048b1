use Rattle.std.proofs.Common.{arith, rules}
use Rattle.std.proofs.lemmas.Grind.{common_steps}
use Rattle.pyc_displays.proofs.expecting.only_of.Goals as goal

pub loop-item-init : goal.loop-item-init
loop-item-init c = first_of (grind (arith, common_steps), search rules)

pub returns : goal.returns
returns c = first_of (grind (arith, common_steps), search rules)

pub returns-in_err-add_if_of : goal.returns-in_err-add_if_of
returns-in_err-add_if_of c = first_of (grind (arith, common_steps), search rules)

pub returns-in_err-items : goal.returns-in_err-items
returns-in_err-items c = first_of (grind (arith, common_steps), search rules)
