use Rattle.std.proofs.Common.{arith, rules}
use Rattle.std.proofs.lemmas.Grind.{common_steps}
use Rattle.pyc_builtins.proofs.members.is_dunder.Goals as goal

pub returns-else-starts_with : goal.returns-else-starts_with
returns-else-starts_with c = first_of (grind (arith, common_steps), search rules)

pub returns-then-starts_with : goal.returns-then-starts_with
returns-then-starts_with c = first_of (grind (arith, common_steps), search rules)
