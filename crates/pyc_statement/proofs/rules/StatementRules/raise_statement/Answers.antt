use Rattle.pyc_tree.specs.SimpleStatements.{raise_statement}
use Rattle.pyc_statement.proofs.ReadingSteps.{reading}
use Rattle.std.proofs.Common.{arith, rules}
use Rattle.pyc_statement.proofs.rules.StatementRules.raise_statement.Goals as goal

pub returns-in_err-word : goal.returns-in_err-word
unfolding raise_statement
returns-in_err-word g c = first_of (grind (arith, reading), search rules)

pub returns-then-ends_statement : goal.returns-then-ends_statement
unfolding raise_statement
returns-then-ends_statement g c = first_of (grind (arith, reading), search rules)

pub returns-in_err-value : goal.returns-in_err-value
unfolding raise_statement
returns-in_err-value g c = first_of (grind (arith, reading), search rules)

pub returns-in_err-cause : goal.returns-in_err-cause
unfolding raise_statement
returns-in_err-cause g c = first_of (grind (arith, reading), search rules)

pub returns : goal.returns
unfolding raise_statement
returns g c = first_of (grind (arith, reading), search rules)
