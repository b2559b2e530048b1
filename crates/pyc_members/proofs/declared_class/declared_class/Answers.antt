use Rattle.pyc_members.specs.DeclaredClasses.{declared_class}
use Rattle.std.proofs.lemmas.Grind.{common_steps}
use Rattle.std.proofs.Common.{arith, rules}
use Rattle.pyc_members.proofs.declared_class.declared_class.Goals as goal

pub returns-in_err-clone : goal.returns-in_err-clone
unfolding declared_class
returns-in_err-clone c = first_of (grind (arith, common_steps), search rules)

pub returns-in_err-clone-2 : goal.returns-in_err-clone-2
unfolding declared_class
returns-in_err-clone-2 c = first_of (grind (arith, common_steps), search rules)

pub returns-in_err-read : goal.returns-in_err-read
unfolding declared_class
returns-in_err-read c = first_of (grind (arith, common_steps), search rules)
