use Rattle.std.proofs.Common.{arith, rules}
use Rattle.std.proofs.lemmas.Grind.{common_steps}
use Rattle.pyc_annotations.specs.Annotations.{resolve_name}
use Rattle.pyc_annotations.proofs.reading.resolve_name.Goals as goal

pub returns : goal.returns
unfolding resolve_name
returns g c = first_of (grind (arith, common_steps), search rules)

pub returns-in-Class : goal.returns-in-Class
unfolding resolve_name
returns-in-Class g c = first_of (grind (arith, common_steps), search rules)

pub returns-in-Fixed : goal.returns-in-Fixed
unfolding resolve_name
returns-in-Fixed g c = first_of (grind (arith, common_steps), search rules)

pub returns-in-Nothing : goal.returns-in-Nothing
unfolding resolve_name
returns-in-Nothing g c = first_of (grind (arith, common_steps), search rules)
