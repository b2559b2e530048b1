use Rattle.std.proofs.Common.{arith, rules}
use Rattle.std.proofs.lemmas.Grind.{common_steps}
use Rattle.pyc_annotations.proofs.lookup.own_meaning.Goals as goal

pub returns-else-is_bound : goal.returns-else-is_bound
returns-else-is_bound g c = first_of (grind (arith, common_steps), search rules)

pub returns-then-is_bound : goal.returns-then-is_bound
returns-then-is_bound g c = first_of (grind (arith, common_steps), search rules)
