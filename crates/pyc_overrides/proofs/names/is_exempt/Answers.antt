use Rattle.std.proofs.Common.{arith, rules}
use Rattle.std.proofs.lemmas.Grind.{common_steps}
use Rattle.pyc_overrides.proofs.names.is_exempt.Goals as goal

pub returns-else-is_maker : goal.returns-else-is_maker
returns-else-is_maker c = first_of (grind (arith, common_steps), search rules)

pub returns-then-is_maker : goal.returns-then-is_maker
returns-then-is_maker c = first_of (grind (arith, common_steps), search rules)
