use Rattle.pyc_attributes.specs.AttributeValues.{union_attribute}
use Rattle.pyc_attributes.proofs.Steps.{performing}
use Rattle.std.proofs.Common.{arith, rules}
use Rattle.pyc_attributes.proofs.values.union_attribute.Goals as goal

pub returns-in_err-items : goal.returns-in_err-items
unfolding union_attribute
returns-in_err-items g c = first_of (grind (arith, performing), search rules)

pub returns-in_err-found : goal.returns-in_err-found
unfolding union_attribute
returns-in_err-found g c = first_of (grind (arith, performing), search rules)

pub returns-in_err-union : goal.returns-in_err-union
unfolding union_attribute
returns-in_err-union g c = first_of (grind (arith, performing), search rules)

pub returns : goal.returns
unfolding union_attribute
returns g c = first_of (grind (arith, performing), search rules)
