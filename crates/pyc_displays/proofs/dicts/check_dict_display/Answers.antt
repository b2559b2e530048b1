use Rattle.pyc_displays.specs.Displays.{check_dict_display}
use Rattle.pyc_obligations.proofs.Steps.{performing}
use Rattle.std.proofs.Common.{arith, rules}
use Rattle.pyc_displays.proofs.dicts.check_dict_display.Goals as goal

pub returns-in_err-entries_to : goal.returns-in_err-entries_to
unfolding check_dict_display
returns-in_err-entries_to g c = first_of (grind (arith, performing), search rules)

pub returns : goal.returns
unfolding check_dict_display
returns g c = first_of (grind (arith, performing), search rules)
