use Rattle.std.proofs.lemmas.Grind.{common_steps}
use Rattle.std.proofs.Common.{arith, rules}
use Rattle.pyc_names.proofs.interface.classes_in.Goals as goal

pub returns-else-is_some : goal.returns-else-is_some
returns-else-is_some c = first_of (grind (arith, common_steps), search rules)

pub returns-in-Fault : goal.returns-in-Fault
returns-in-Fault c = first_of (grind (arith, common_steps), search rules)

pub returns-then-is_some : goal.returns-then-is_some
returns-then-is_some c = first_of (grind (arith, common_steps), search rules)
