use Rattle.pyc_subscripts.proofs.Steps.{performing}
use Rattle.std.proofs.Common.{arith, rules}
use Rattle.pyc_subscripts.proofs.indexing.placed_item.Goals as goal

pub returns-in-None : goal.returns-in-None
returns-in-None g c = first_of (grind (arith, performing), search rules)

pub returns-in_err-clone-in-Some : goal.returns-in_err-clone-in-Some
returns-in_err-clone-in-Some g c = first_of (grind (arith, performing), search rules)

pub returns-in_ok-clone-in-Some : goal.returns-in_ok-clone-in-Some
returns-in_ok-clone-in-Some g c = first_of (grind (arith, performing), search rules)
