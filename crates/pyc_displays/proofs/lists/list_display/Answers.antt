use Rattle.std.proofs.Common.{arith, rules}
use Rattle.std.proofs.lemmas.Grind.{common_steps}
use Rattle.pyc_displays.proofs.lists.list_display.Goals as goal

pub returns : goal.returns
returns g c = first_of (grind (arith, common_steps), search rules)

pub returns-in_err-item : goal.returns-in_err-item
returns-in_err-item g c = first_of (grind (arith, common_steps), search rules)
