use Rattle.pyc_obligations.proofs.Steps.{performing}
use Rattle.std.proofs.Common.{arith, rules}
use Rattle.pyc_overrides.proofs.ancestors.user_member.Goals as goal

pub returns : goal.returns
returns g c = first_of (grind (arith, performing), search rules)

pub returns-in_err-found : goal.returns-in_err-found
returns-in_err-found g c = first_of (grind (arith, performing), search rules)
