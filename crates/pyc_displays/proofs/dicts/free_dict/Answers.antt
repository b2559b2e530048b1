use Rattle.pyc_displays.specs.Displays.{free_dict}
use Rattle.pyc_obligations.proofs.Steps.{performing}
use Rattle.std.proofs.Common.{arith, rules}
use Rattle.pyc_displays.proofs.dicts.free_dict.Goals as goal

pub returns-in_err-types : goal.returns-in_err-types
unfolding free_dict
returns-in_err-types g c = first_of (grind (arith, performing), search rules)

pub returns : goal.returns
unfolding free_dict
returns g c = first_of (grind (arith, performing), search rules)
