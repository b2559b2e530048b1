use Rattle.std.proofs.Common.{arith, rules}
use Rattle.std.proofs.lemmas.Grind.{common_steps}
use Rattle.pyc_assignments.proofs.unpacking.unequal_shares.Goals as goal

pub returns-else-provided-expected : goal.returns-else-provided-expected
returns-else-provided-expected g c = first_of (grind (arith, common_steps), search rules)

pub returns-then-provided-expected : goal.returns-then-provided-expected
returns-then-provided-expected g c = first_of (grind (arith, common_steps), search rules)
