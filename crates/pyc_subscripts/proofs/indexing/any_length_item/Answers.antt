use Rattle.std.proofs.Common.{arith, rules}
use Rattle.std.proofs.lemmas.Grind.{common_steps}
use Rattle.pyc_subscripts.proofs.indexing.any_length_item.Goals as goal

pub returns-else-is_slice : goal.returns-else-is_slice
returns-else-is_slice c = first_of (grind (arith, common_steps), search rules)

pub returns-then-is_slice : goal.returns-then-is_slice
returns-then-is_slice c = first_of (grind (arith, common_steps), search rules)
