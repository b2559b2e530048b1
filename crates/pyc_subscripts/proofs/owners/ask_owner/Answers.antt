use Rattle.pyc_subscripts.specs.Owners.{ask_owner}
use Rattle.pyc_subscripts.proofs.Steps.{performing}
use Rattle.std.proofs.Common.{arith, rules}
use Rattle.pyc_subscripts.proofs.owners.ask_owner.Goals as goal

pub returns-in_err-found : goal.returns-in_err-found
unfolding ask_owner
returns-in_err-found g c = first_of (grind (arith, performing), search rules)

pub returns : goal.returns
unfolding ask_owner
returns g c = first_of (grind (arith, performing), search rules)
