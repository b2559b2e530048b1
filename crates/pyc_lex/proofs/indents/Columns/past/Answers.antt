use Rattle.std.proofs.Common.{arith, rules}
use Rattle.std.proofs.lemmas.Grind.{common_steps}
use Rattle.pyc_lex.proofs.indents.Columns.past.Goals as goal

pub returns-in-12 : goal.returns-in-12
returns-in-12 c = first_of (grind (arith, common_steps), search rules)

pub returns-in-9 : goal.returns-in-9
returns-in-9 c = first_of (grind (arith, common_steps), search rules)

pub returns-in_default : goal.returns-in_default
returns-in_default c = first_of (grind (arith, common_steps), search rules)
