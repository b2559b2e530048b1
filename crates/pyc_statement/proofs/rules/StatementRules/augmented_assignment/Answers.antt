use Rattle.pyc_tree.specs.SimpleStatements.{augmented_assignment}
use Rattle.pyc_statement.proofs.ReadingSteps.{reading}
use Rattle.std.proofs.Common.{arith, rules}
use Rattle.pyc_statement.proofs.rules.StatementRules.augmented_assignment.Goals as goal

pub returns-then-not-is_single_target : goal.returns-then-not-is_single_target
unfolding augmented_assignment
returns-then-not-is_single_target g c = first_of (grind (arith, reading), search rules)

pub returns-in_err-sign : goal.returns-in_err-sign
unfolding augmented_assignment
returns-in_err-sign g c = first_of (grind (arith, reading), search rules)

pub returns-in_err-value : goal.returns-in_err-value
unfolding augmented_assignment
returns-in_err-value g c = first_of (grind (arith, reading), search rules)

pub returns : goal.returns
unfolding augmented_assignment
returns g c = first_of (grind (arith, reading), search rules)
