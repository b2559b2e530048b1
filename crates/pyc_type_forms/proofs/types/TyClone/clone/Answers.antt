use Rattle.std.proofs.lemmas.Grind.{common_steps}
use Rattle.std.proofs.Common.{arith, rules}
use Rattle.pyc_type_forms.proofs.types.TyClone.clone.Goals as goal

pub returns-in_err-clone-in-Callable : goal.returns-in_err-clone-in-Callable
returns-in_err-clone-in-Callable c = first_of (grind (arith, common_steps), search rules)

pub returns-in_err-clone-in-Class : goal.returns-in_err-clone-in-Class
returns-in_err-clone-in-Class c = first_of (grind (arith, common_steps), search rules)

pub returns-in_err-clone-in-Dict : goal.returns-in_err-clone-in-Dict
returns-in_err-clone-in-Dict c = first_of (grind (arith, common_steps), search rules)

pub returns-in_err-clone-in-Instance : goal.returns-in_err-clone-in-Instance
returns-in_err-clone-in-Instance c = first_of (grind (arith, common_steps), search rules)

pub returns-in_err-clone-in-List : goal.returns-in_err-clone-in-List
returns-in_err-clone-in-List c = first_of (grind (arith, common_steps), search rules)

pub returns-in_err-clone-in-Module : goal.returns-in_err-clone-in-Module
returns-in_err-clone-in-Module c = first_of (grind (arith, common_steps), search rules)

pub returns-in_err-clone-in-Tuple : goal.returns-in_err-clone-in-Tuple
returns-in_err-clone-in-Tuple c = first_of (grind (arith, common_steps), search rules)

pub returns-in_err-clone-in-TupleOf : goal.returns-in_err-clone-in-TupleOf
returns-in_err-clone-in-TupleOf c = first_of (grind (arith, common_steps), search rules)

pub returns-in_err-clone-in-Union : goal.returns-in_err-clone-in-Union
returns-in_err-clone-in-Union c = first_of (grind (arith, common_steps), search rules)
