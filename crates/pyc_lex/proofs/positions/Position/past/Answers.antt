use Rattle.std.proofs.Common.{arith, rules}
use Rattle.std.proofs.lemmas.Grind.{common_steps}
use Rattle.pyc_lex.proofs.positions.Position.past.Goals as goal

pub returns-else-not-contains : goal.returns-else-not-contains
returns-else-not-contains c = first_of (grind (arith, common_steps), search rules)

pub returns-then-byte_at-ne10 : goal.returns-then-byte_at-ne10
returns-then-byte_at-ne10 c = first_of (grind (arith, common_steps), search rules)

pub returns-then-not-contains : goal.returns-then-not-contains
returns-then-not-contains c = first_of (grind (arith, common_steps), search rules)
