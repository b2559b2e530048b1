use Rattle.pyc_tree.specs.SimpleStatements.{yield_statement}
use Rattle.pyc_statement.proofs.ReadingSteps.{reading}
use Rattle.std.proofs.Common.{arith, rules}
use Rattle.pyc_statement.proofs.rules.StatementRules.yield_statement.Goals as goal

pub returns-in_err-value : goal.returns-in_err-value
unfolding yield_statement
returns-in_err-value g c = first_of (grind (arith, reading), search rules)

pub returns : goal.returns
unfolding yield_statement
returns g c = first_of (grind (arith, reading), search rules)
