use Rattle.std.proofs.Common.{arith, rules}
use Rattle.std.proofs.lemmas.Grind.{common_steps}
use Rattle.pyc_annotations.proofs.type_form.TypeForm.name.Goals as goal

pub returns-in-Callable : goal.returns-in-Callable
returns-in-Callable c = first_of (grind (arith, common_steps), search rules)

pub returns-in-Dict : goal.returns-in-Dict
returns-in-Dict c = first_of (grind (arith, common_steps), search rules)

pub returns-in-List : goal.returns-in-List
returns-in-List c = first_of (grind (arith, common_steps), search rules)

pub returns-in-Optional : goal.returns-in-Optional
returns-in-Optional c = first_of (grind (arith, common_steps), search rules)

pub returns-in-Tuple : goal.returns-in-Tuple
returns-in-Tuple c = first_of (grind (arith, common_steps), search rules)

pub returns-in-Type : goal.returns-in-Type
returns-in-Type c = first_of (grind (arith, common_steps), search rules)

pub returns-in-Union : goal.returns-in-Union
returns-in-Union c = first_of (grind (arith, common_steps), search rules)
