use Rattle.std.proofs.Common.{arith, rules}
use Rattle.std.proofs.lemmas.Grind.{common_steps}
use Rattle.pyc_calls.proofs.methods.unless_reported.Goals as goal

pub returns-else-is_reported : goal.returns-else-is_reported
returns-else-is_reported c = first_of (grind (arith, common_steps), search rules)

pub returns-then-is_reported : goal.returns-then-is_reported
returns-then-is_reported c = first_of (grind (arith, common_steps), search rules)
