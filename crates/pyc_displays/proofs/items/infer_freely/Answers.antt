use Rattle.pyc_displays.specs.Displays.{infer_freely}
use Rattle.pyc_obligations.proofs.Steps.{performing}
use Rattle.std.proofs.Common.{arith, rules}
use Rattle.pyc_displays.proofs.items.infer_freely.Goals as goal

pub returns-in_err-read : goal.returns-in_err-read
unfolding infer_freely
returns-in_err-read g c = first_of (grind (arith, performing), search rules)

pub returns : goal.returns
unfolding infer_freely
returns g c = first_of (grind (arith, performing), search rules)
