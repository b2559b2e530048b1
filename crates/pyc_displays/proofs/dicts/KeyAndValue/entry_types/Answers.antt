use Rattle.pyc_displays.specs.Displays.{entry_types}
use Rattle.pyc_obligations.proofs.Steps.{performing}
use Rattle.std.proofs.Common.{arith, rules}
use Rattle.pyc_displays.proofs.dicts.KeyAndValue.entry_types.Goals as goal

pub returns-in_err-key : goal.returns-in_err-key
unfolding entry_types
returns-in_err-key g c = first_of (grind (arith, performing), search rules)

pub returns-in_err-value : goal.returns-in_err-value
unfolding entry_types
returns-in_err-value g c = first_of (grind (arith, performing), search rules)

pub returns : goal.returns
unfolding entry_types
returns g c = first_of (grind (arith, performing), search rules)
