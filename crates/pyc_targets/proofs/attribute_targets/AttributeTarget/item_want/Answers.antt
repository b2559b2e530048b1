use Rattle.pyc_targets.specs.AttributeTargets.{item_want}
use Rattle.pyc_obligations.proofs.Steps.{performing}
use Rattle.std.proofs.Common.{arith, rules}
use Rattle.pyc_targets.proofs.attribute_targets.AttributeTarget.item_want.Goals as goal

pub returns : goal.returns
unfolding item_want
returns g c = first_of (grind (arith, performing), search rules)

pub returns-in_err-found : goal.returns-in_err-found
unfolding item_want
returns-in_err-found g c = first_of (grind (arith, performing), search rules)
