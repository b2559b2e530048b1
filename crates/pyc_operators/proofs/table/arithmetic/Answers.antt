use Rattle.std.proofs.Common.{arith, rules}
use Rattle.std.proofs.lemmas.Grind.{common_steps}
use Rattle.pyc_operators.proofs.table.arithmetic.Goals as goal

pub returns-else-is_number : goal.returns-else-is_number
returns-else-is_number c = first_of (grind (arith, common_steps), search rules)

pub returns-then-is_number-2 : goal.returns-then-is_number-2
returns-then-is_number-2 c = first_of (grind (arith, common_steps), search rules)

pub returns-then-is_whole-2 : goal.returns-then-is_whole-2
returns-then-is_whole-2 c = first_of (grind (arith, common_steps), search rules)
