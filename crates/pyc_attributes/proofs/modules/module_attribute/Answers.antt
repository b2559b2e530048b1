use Rattle.pyc_attributes.specs.FoundAttributes.{module_attribute}
use Rattle.pyc_attributes.proofs.Steps.{performing}
use Rattle.std.proofs.Common.{arith, rules}
use Rattle.pyc_attributes.proofs.modules.module_attribute.Goals as goal

pub returns-else-is_dunder : goal.returns-else-is_dunder
unfolding module_attribute
returns-else-is_dunder g c = first_of (grind (arith, performing), search rules)
