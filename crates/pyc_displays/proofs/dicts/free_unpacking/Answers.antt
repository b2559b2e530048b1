use Rattle.pyc_displays.specs.Displays.{free_unpacking}
use Rattle.pyc_obligations.proofs.Steps.{performing}
use Rattle.std.proofs.Common.{arith, rules}
use Rattle.pyc_displays.proofs.dicts.free_unpacking.Goals as goal

pub returns-in_err-infer_freely : goal.returns-in_err-infer_freely
unfolding free_unpacking
returns-in_err-infer_freely g c = first_of (grind (arith, performing), search rules)

pub returns : goal.returns
unfolding free_unpacking
returns g c = first_of (grind (arith, performing), search rules)
