use Rattle.pyc_displays.specs.Displays.{check_list_display}
use Rattle.pyc_obligations.proofs.Steps.{performing}
use Rattle.std.proofs.Common.{arith, rules}
use Rattle.pyc_displays.proofs.lists.check_list_display.Goals as goal

pub returns-in_err-check_item_types : goal.returns-in_err-check_item_types
unfolding check_list_display
returns-in_err-check_item_types g c = first_of (grind (arith, performing), search rules)

pub returns : goal.returns
unfolding check_list_display
returns g c = first_of (grind (arith, performing), search rules)
