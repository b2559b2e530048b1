use Rattle.std.proofs.lemmas.Grind.{common_steps}
use Rattle.std.proofs.Common.{arith, rules}
use Rattle.pyc_type_forms.proofs.instances.instance_of.Goals as goal

pub returns-in-Dict : goal.returns-in-Dict
returns-in-Dict c = first_of (grind (arith, common_steps), search rules)

pub returns-in_err-clone-in-Plain : goal.returns-in_err-clone-in-Plain
returns-in_err-clone-in-Plain c = first_of (grind (arith, common_steps), search rules)

pub returns-in_err-new-in-List : goal.returns-in_err-new-in-List
returns-in_err-new-in-List c = first_of (grind (arith, common_steps), search rules)

pub returns-in_err-new-in-Tuple : goal.returns-in_err-new-in-Tuple
returns-in_err-new-in-Tuple c = first_of (grind (arith, common_steps), search rules)
