use Rattle.pyc_displays.specs.Displays.{free_pair}
use Rattle.pyc_obligations.proofs.Steps.{performing}
use Rattle.std.proofs.Common.{arith, rules}
use Rattle.pyc_displays.proofs.dicts.KeyAndValue.free_pair.Goals as goal

pub returns-in_err-found : goal.returns-in_err-found
unfolding free_pair
returns-in_err-found g c = first_of (grind (arith, performing), search rules)

pub returns : goal.returns
unfolding free_pair
returns g c = first_of (grind (arith, performing), search rules)
