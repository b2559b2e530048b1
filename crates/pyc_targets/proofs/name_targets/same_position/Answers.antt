use Rattle.std.proofs.Common.{arith, rules}
use Rattle.std.proofs.lemmas.Grind.{common_steps}
use Rattle.pyc_targets.proofs.name_targets.same_position.Goals as goal

pub returns-else-a-b : goal.returns-else-a-b
returns-else-a-b c = first_of (grind (arith, common_steps), search rules)

pub returns-then-a-b : goal.returns-then-a-b
returns-then-a-b c = first_of (grind (arith, common_steps), search rules)
