use Rattle.pyc_attributes.specs.AttributeValues.{union_item}
use Rattle.pyc_attributes.proofs.Steps.{performing}
use Rattle.std.proofs.Common.{arith, rules}
use Rattle.pyc_attributes.proofs.values.UnionAttribute.union_item.Goals as goal

pub returns-in_err-found : goal.returns-in_err-found
unfolding union_item
returns-in_err-found g c = first_of (grind (arith, performing), search rules)

pub returns : goal.returns
unfolding union_item
returns g c = first_of (grind (arith, performing), search rules)
