use Rattle.std.proofs.Common.{arith, rules}
use Rattle.std.proofs.lemmas.Grind.{common_steps}
use Rattle.pyc_assignments.proofs.annotated.AnnotatedTarget.name_want.Goals as goal

pub returns-else-self : goal.returns-else-self
returns-else-self g c = first_of (grind (arith, common_steps), search rules)

pub returns-in_err-clone : goal.returns-in_err-clone
returns-in_err-clone g c = first_of (grind (arith, common_steps), search rules)

pub returns-in_ok-clone : goal.returns-in_ok-clone
returns-in_ok-clone g c = first_of (grind (arith, common_steps), search rules)
