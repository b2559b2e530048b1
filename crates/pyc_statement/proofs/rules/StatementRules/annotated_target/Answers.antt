use Rattle.pyc_tree.specs.SimpleStatements.{annotated_target}
use Rattle.pyc_statement.proofs.ReadingSteps.{reading}
use Rattle.std.proofs.Common.{arith, rules}
use Rattle.pyc_statement.proofs.rules.StatementRules.annotated_target.Goals as goal

pub returns-then-not-is_single_target : goal.returns-then-not-is_single_target
unfolding annotated_target
returns-then-not-is_single_target g c = first_of (grind (arith, reading), search rules)

pub returns-in_err-colon : goal.returns-in_err-colon
unfolding annotated_target
returns-in_err-colon g c = first_of (grind (arith, reading), search rules)

pub returns-in_err-annotation : goal.returns-in_err-annotation
unfolding annotated_target
returns-in_err-annotation g c = first_of (grind (arith, reading), search rules)

pub returns-in_err-value : goal.returns-in_err-value
unfolding annotated_target
returns-in_err-value g c = first_of (grind (arith, reading), search rules)

pub returns : goal.returns
unfolding annotated_target
returns g c = first_of (grind (arith, reading), search rules)
