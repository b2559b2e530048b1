use Rattle.pyc_obligations.proofs.Steps.{performing}
use Rattle.std.proofs.Common.{arith, rules}
use Rattle.pyc_targets.proofs.name_targets.ask_type.Goals as goal

pub returns : goal.returns
returns g c = first_of (grind (arith, performing), search rules)

pub returns-in_err-clone : goal.returns-in_err-clone
returns-in_err-clone g c = first_of (grind (arith, performing), search rules)

pub returns-in_err-clone-2 : goal.returns-in_err-clone-2
returns-in_err-clone-2 g c = first_of (grind (arith, performing), search rules)

pub returns-in_err-found : goal.returns-in_err-found
returns-in_err-found g c = first_of (grind (arith, performing), search rules)
