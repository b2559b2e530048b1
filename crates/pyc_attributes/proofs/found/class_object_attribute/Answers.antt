use Rattle.pyc_attributes.specs.FoundAttributes.{class_object_attribute}
use Rattle.pyc_attributes.proofs.Steps.{performing}
use Rattle.std.proofs.Common.{arith, rules}
use Rattle.pyc_attributes.proofs.found.class_object_attribute.Goals as goal

pub returns-in_err-found : goal.returns-in_err-found
unfolding class_object_attribute
returns-in_err-found g c = first_of (grind (arith, performing), search rules)

pub returns : goal.returns
unfolding class_object_attribute
returns g c = first_of (grind (arith, performing), search rules)
