use Rattle.std.proofs.Common.{arith, rules}
use Rattle.std.proofs.lemmas.Grind.{common_steps}
use Rattle.pyc_assignments.proofs.storing.narrow_if_union.Goals as goal

pub returns-else-is_union : goal.returns-else-is_union
returns-else-is_union g c = first_of (grind (arith, common_steps), search rules)

pub returns-then-not-is_any : goal.returns-then-not-is_any
returns-then-not-is_any g c = first_of (grind (arith, common_steps), search rules)
