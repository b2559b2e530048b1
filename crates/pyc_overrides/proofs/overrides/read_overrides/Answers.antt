use Rattle.std.proofs.Common.{arith, rules}
use Rattle.std.proofs.lemmas.Grind.{common_steps}
use Rattle.pyc_overrides.specs.Overrides.{overrides_read}
use Rattle.pyc_overrides.proofs.overrides.read_overrides.Goals as goal

pub returns : goal.returns
unfolding overrides_read
returns g c = first_of (grind (arith, common_steps), search rules)

pub returns-in_err-class : goal.returns-in_err-class
unfolding overrides_read
returns-in_err-class g c = first_of (grind (arith, common_steps), search rules)
