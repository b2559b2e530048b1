use Rattle.pyc_annotations.proofs.Steps.{performing}
use Rattle.std.proofs.Common.{arith, rules}
use Rattle.pyc_annotations.proofs.lookup.attribute_meaning.Goals as goal

pub returns : goal.returns
returns g c = first_of (grind (arith, performing), search rules)

pub returns-in-Any : goal.returns-in-Any
returns-in-Any g c = first_of (grind (arith, performing), search rules)

pub returns-in-Module : goal.returns-in-Module
returns-in-Module g c = first_of (grind (arith, performing), search rules)

pub returns-in-Variable : goal.returns-in-Variable
returns-in-Variable g c = first_of (grind (arith, performing), search rules)
