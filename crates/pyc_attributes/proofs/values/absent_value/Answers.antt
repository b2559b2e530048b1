use Rattle.pyc_attributes.specs.AttributeValues.{absent_value}
use Rattle.pyc_attributes.proofs.Steps.{performing}
use Rattle.std.proofs.Common.{arith, rules}
use Rattle.pyc_attributes.proofs.values.absent_value.Goals as goal

pub returns-in_err-found : goal.returns-in_err-found
unfolding absent_value
returns-in_err-found g c = first_of (grind (arith, performing), search rules)

pub returns : goal.returns
unfolding absent_value
returns g c = first_of (grind (arith, performing), search rules)
