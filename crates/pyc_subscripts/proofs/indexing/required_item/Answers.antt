use Rattle.pyc_subscripts.specs.Subscripts.{required_item}
use Rattle.pyc_subscripts.proofs.Steps.{performing}
use Rattle.std.proofs.Common.{arith, rules}
use Rattle.pyc_subscripts.proofs.indexing.required_item.Goals as goal

pub returns-in_err-require : goal.returns-in_err-require
unfolding required_item
returns-in_err-require g c = first_of (grind (arith, performing), search rules)

pub returns-in_err-clone : goal.returns-in_err-clone
unfolding required_item
returns-in_err-clone g c = first_of (grind (arith, performing), search rules)

pub returns : goal.returns
unfolding required_item
returns g c = first_of (grind (arith, performing), search rules)
