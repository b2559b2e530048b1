use Rattle.std.proofs.Common.{arith, rules}
use Rattle.std.proofs.lemmas.Grind.{common_steps}
use Rattle.pyc_matching.proofs.matching.unless_filled.Goals as goal

pub returns-else-is_filled : goal.returns-else-is_filled
returns-else-is_filled c = first_of (grind (arith, common_steps), search rules)

pub returns-then-is_filled : goal.returns-then-is_filled
returns-then-is_filled c = first_of (grind (arith, common_steps), search rules)
