use Rattle.pyc_tree.specs.SimpleStatements.{return_statement}
use Rattle.pyc_statement.proofs.ReadingSteps.{reading}
use Rattle.std.proofs.Common.{arith, rules}
use Rattle.pyc_statement.proofs.rules.StatementRules.return_statement.Goals as goal

pub returns-in_err-word : goal.returns-in_err-word
unfolding return_statement
returns-in_err-word g c = first_of (grind (arith, reading), search rules)

pub returns-requires : goal.returns-requires
unfolding return_statement
returns-requires g c = first_of (grind (arith, reading), search rules)

pub returns-then-ends_statement : goal.returns-then-ends_statement
unfolding return_statement
returns-then-ends_statement g c = first_of (grind (arith, reading), search rules)

pub returns-in_err-value : goal.returns-in_err-value
unfolding return_statement
returns-in_err-value g c = first_of (grind (arith, reading), search rules)

pub returns-requires-2 : goal.returns-requires-2
unfolding return_statement
returns-requires-2 g c = first_of (grind (arith, reading), search rules)

pub returns : goal.returns
unfolding return_statement
returns g c = first_of (grind (arith, reading), search rules)
