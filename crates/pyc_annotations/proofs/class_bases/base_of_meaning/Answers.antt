use Rattle.pyc_annotations.specs.Bases.{base_of_meaning}
use Rattle.pyc_annotations.proofs.Steps.{performing}
use Rattle.std.proofs.Common.{arith, rules}
use Rattle.pyc_annotations.proofs.class_bases.base_of_meaning.Goals as goal

pub returns : goal.returns
unfolding base_of_meaning
returns g c = first_of (grind (arith, performing), search rules)

pub returns-in-Any : goal.returns-in-Any
unfolding base_of_meaning
returns-in-Any g c = first_of (grind (arith, performing), search rules)

pub returns-in-Class : goal.returns-in-Class
unfolding base_of_meaning
returns-in-Class g c = first_of (grind (arith, performing), search rules)

pub returns-in-Variable-true : goal.returns-in-Variable-true
unfolding base_of_meaning
returns-in-Variable-true g c = first_of (grind (arith, performing), search rules)
