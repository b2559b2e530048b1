use Rattle.pyc_overrides.specs.Overrides.{member_read}
use Rattle.pyc_obligations.proofs.Steps.{performing}
use Rattle.std.proofs.Common.{arith, rules}
use Rattle.pyc_overrides.proofs.overrides.read_member.Goals as goal

pub returns : goal.returns
unfolding member_read
returns g c = first_of (grind (arith, performing), search rules)

pub returns-in_err-found : goal.returns-in_err-found
unfolding member_read
returns-in_err-found g c = first_of (grind (arith, performing), search rules)
