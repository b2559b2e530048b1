use Rattle.pyc_targets.specs.AttributeTargets.{absent_want}
use Rattle.pyc_obligations.proofs.Steps.{performing}
use Rattle.std.proofs.Common.{arith, rules}
use Rattle.pyc_targets.proofs.attribute_targets.AttributeTarget.absent_want.Goals as goal

pub returns : goal.returns
unfolding absent_want
returns g c = first_of (grind (arith, performing), search rules)

pub returns-in_err-ty : goal.returns-in_err-ty
unfolding absent_want
returns-in_err-ty g c = first_of (grind (arith, performing), search rules)
