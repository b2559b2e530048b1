use Rattle.pyc_attributes.specs.FoundAttributes.{instance_attribute}
use Rattle.pyc_attributes.proofs.Steps.{performing}
use Rattle.std.proofs.Common.{arith, rules}
use Rattle.pyc_attributes.proofs.found.instance_attribute.Goals as goal

pub returns-in_err-found : goal.returns-in_err-found
unfolding instance_attribute
returns-in_err-found g c = first_of (grind (arith, performing), search rules)

pub returns : goal.returns
unfolding instance_attribute
returns g c = first_of (grind (arith, performing), search rules)
