use Rattle.pyc_tree.specs.Headers.{simple_line}
use Rattle.pyc_statement.proofs.ReadingSteps.{reading}
use Rattle.std.proofs.Common.{arith, rules}
use Rattle.pyc_statement.proofs.rules.StatementRules.simple_line.Goals as goal

pub returns-in_err-statements : goal.returns-in_err-statements
unfolding simple_line
returns-in_err-statements g c = first_of (grind (arith, reading), search rules)

pub returns : goal.returns
unfolding simple_line
returns g c = first_of (grind (arith, reading), search rules)
