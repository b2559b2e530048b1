use Rattle.pyc_attributes.proofs.Steps.{performing}
use Rattle.std.proofs.Common.{arith, rules}
use Rattle.pyc_attributes.proofs.found.without_member.Goals as goal

pub returns-in_err-found : goal.returns-in_err-found
returns-in_err-found g c = first_of (grind (arith, performing), search rules)

pub returns-in_ok-found : goal.returns-in_ok-found
returns-in_ok-found g c = first_of (grind (arith, performing), search rules)
