use Rattle.pyc_tree.specs.Headers.{any_line}
use Rattle.pyc_statement.proofs.ReadingSteps.{reading}
use Rattle.std.proofs.Common.{arith, rules}
use Rattle.pyc_statement.proofs.rules.StatementRules.any_line.Goals as goal

pub returns-in-Arithmetic-At : goal.returns-in-Arithmetic-At
unfolding any_line
returns-in-Arithmetic-At g c = first_of (grind (arith, reading), search rules)

pub returns-in-Keyword : goal.returns-in-Keyword
unfolding any_line
returns-in-Keyword g c = first_of (grind (arith, reading), search rules)

pub returns-in_default : goal.returns-in_default
unfolding any_line
returns-in_default g c = first_of (grind (arith, reading), search rules)
