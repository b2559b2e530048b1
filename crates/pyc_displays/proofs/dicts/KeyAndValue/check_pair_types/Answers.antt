use Rattle.pyc_displays.specs.Displays.{check_pair_types}
use Rattle.pyc_obligations.proofs.Steps.{performing}
use Rattle.std.proofs.Common.{arith, rules}
use Rattle.pyc_displays.proofs.dicts.KeyAndValue.check_pair_types.Goals as goal

pub returns-in_err-got : goal.returns-in_err-got
unfolding check_pair_types
returns-in_err-got g c = first_of (grind (arith, performing), search rules)

pub returns : goal.returns
unfolding check_pair_types
returns g c = first_of (grind (arith, performing), search rules)
