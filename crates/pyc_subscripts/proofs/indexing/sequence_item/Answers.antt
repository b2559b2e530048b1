use Rattle.pyc_subscripts.proofs.Steps.{performing}
use Rattle.std.proofs.Common.{arith, rules}
use Rattle.pyc_subscripts.proofs.indexing.sequence_item.Goals as goal

pub returns-in_err-clone : goal.returns-in_err-clone
returns-in_err-clone g c = first_of (grind (arith, performing), search rules)

pub returns-in_ok-clone : goal.returns-in_ok-clone
returns-in_ok-clone g c = first_of (grind (arith, performing), search rules)
