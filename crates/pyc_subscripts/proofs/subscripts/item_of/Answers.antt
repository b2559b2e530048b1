use Rattle.pyc_subscripts.specs.Subscripts.{item_of}
use Rattle.pyc_subscripts.proofs.Steps.{performing}
use Rattle.std.proofs.Common.{arith, rules}
use Rattle.pyc_subscripts.proofs.subscripts.item_of.Goals as goal

pub returns-in_err-owner : goal.returns-in_err-owner
unfolding item_of
returns-in_err-owner g c = first_of (grind (arith, performing), search rules)

pub returns : goal.returns
unfolding item_of
returns g c = first_of (grind (arith, performing), search rules)
