use Rattle.pyc_tree.specs.SimpleStatements.{expression_or_assignment}
use Rattle.pyc_statement.proofs.ReadingSteps.{reading}
use Rattle.std.proofs.Common.{arith, rules}
use Rattle.pyc_statement.proofs.rules.StatementRules.expression_or_assignment.Goals as goal

pub returns-in_err-first : goal.returns-in_err-first
unfolding expression_or_assignment
returns-in_err-first g c = first_of (grind (arith, reading), search rules)

pub returns-then-is_colon : goal.returns-then-is_colon
unfolding expression_or_assignment
returns-then-is_colon g c = first_of (grind (arith, reading), search rules)

pub returns-then-is_augmented : goal.returns-then-is_augmented
unfolding expression_or_assignment
returns-then-is_augmented g c = first_of (grind (arith, reading), search rules)

pub returns-else-is_augmented : goal.returns-else-is_augmented
unfolding expression_or_assignment
returns-else-is_augmented g c = first_of (grind (arith, reading), search rules)
