use Rattle.pyc_tree.specs.SimpleStatements.{value}
use Rattle.pyc_statement.proofs.ReadingSteps.{reading}
use Rattle.std.proofs.Common.{arith, rules}
use Rattle.pyc_statement.proofs.rules.StatementRules.value.Goals as goal

pub returns-in-Keyword-Yield : goal.returns-in-Keyword-Yield
unfolding value
returns-in-Keyword-Yield g c = first_of (grind (arith, reading), search rules)

pub returns-in_default : goal.returns-in_default
unfolding value
returns-in_default g c = first_of (grind (arith, reading), search rules)
