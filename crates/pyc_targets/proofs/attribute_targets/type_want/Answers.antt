use Rattle.pyc_targets.specs.AttributeTargets.{type_want}
use Rattle.pyc_obligations.proofs.Steps.{performing}
use Rattle.std.proofs.Common.{arith, rules}
use Rattle.pyc_targets.proofs.attribute_targets.type_want.Goals as goal

pub returns : goal.returns
unfolding type_want
returns g c = first_of (grind (arith, performing), search rules)

pub returns-in_err-found : goal.returns-in_err-found
unfolding type_want
returns-in_err-found g c = first_of (grind (arith, performing), search rules)

pub returns-in_err-items : goal.returns-in_err-items
unfolding type_want
returns-in_err-items g c = first_of (grind (arith, performing), search rules)
