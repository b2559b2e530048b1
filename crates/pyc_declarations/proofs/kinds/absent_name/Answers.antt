use Rattle.std.proofs.Common.{arith, rules}
use Rattle.std.proofs.lemmas.Grind.{common_steps}
use Rattle.pyc_declarations.proofs.kinds.absent_name.Goals as goal

pub returns-else-is_some : goal.returns-else-is_some
returns-else-is_some c = first_of (grind (arith, common_steps), search rules)

pub returns-in-None : goal.returns-in-None
returns-in-None c = first_of (grind (arith, common_steps), search rules)

pub returns-then-is_some : goal.returns-then-is_some
returns-then-is_some c = first_of (grind (arith, common_steps), search rules)
