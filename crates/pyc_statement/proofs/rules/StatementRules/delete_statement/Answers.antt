use Rattle.pyc_tree.specs.SimpleStatements.{delete_statement}
use Rattle.pyc_statement.proofs.ReadingSteps.{reading}
use Rattle.std.proofs.Common.{arith, rules}
use Rattle.pyc_statement.proofs.rules.StatementRules.delete_statement.Goals as goal

pub returns-in_err-word : goal.returns-in_err-word
unfolding delete_statement
returns-in_err-word g c = first_of (grind (arith, reading), search rules)

pub returns-in_err-targets : goal.returns-in_err-targets
unfolding delete_statement
returns-in_err-targets g c = first_of (grind (arith, reading), search rules)

pub returns : goal.returns
unfolding delete_statement
returns g c = first_of (grind (arith, reading), search rules)
