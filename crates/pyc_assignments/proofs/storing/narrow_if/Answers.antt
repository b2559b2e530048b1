use Rattle.std.proofs.Common.{arith, rules}
use Rattle.std.proofs.lemmas.Grind.{common_steps}
use Rattle.pyc_assignments.proofs.storing.narrow_if.Goals as goal

pub returns-else-goes : goal.returns-else-goes
returns-else-goes c = first_of (grind (arith, common_steps), search rules)

pub returns-in_err-clone : goal.returns-in_err-clone
returns-in_err-clone c = first_of (grind (arith, common_steps), search rules)

pub returns-in_err-clone-2 : goal.returns-in_err-clone-2
returns-in_err-clone-2 c = first_of (grind (arith, common_steps), search rules)

pub returns-in_ok-clone-2 : goal.returns-in_ok-clone-2
returns-in_ok-clone-2 c = first_of (grind (arith, common_steps), search rules)
