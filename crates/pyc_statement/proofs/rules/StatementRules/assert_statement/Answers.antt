use Rattle.pyc_tree.specs.SimpleStatements.{assert_statement}
use Rattle.pyc_statement.proofs.ReadingSteps.{reading}
use Rattle.std.proofs.Common.{arith, rules}
use Rattle.pyc_statement.proofs.rules.StatementRules.assert_statement.Goals as goal

pub returns-in_err-word : goal.returns-in_err-word
unfolding assert_statement
returns-in_err-word g c = first_of (grind (arith, reading), search rules)

pub returns-in_err-test : goal.returns-in_err-test
unfolding assert_statement
returns-in_err-test g c = first_of (grind (arith, reading), search rules)

pub returns-in_err-message : goal.returns-in_err-message
unfolding assert_statement
returns-in_err-message g c = first_of (grind (arith, reading), search rules)

pub returns : goal.returns
unfolding assert_statement
returns g c = first_of (grind (arith, reading), search rules)
