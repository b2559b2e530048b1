use Rattle.pyc_tree.specs.Headers.{class_of}
use Rattle.pyc_statement.proofs.ReadingSteps.{reading}
use Rattle.std.proofs.Common.{arith, rules}
use Rattle.pyc_statement.proofs.rules.StatementRules.class_of.Goals as goal

pub returns-in_err-opening : goal.returns-in_err-opening
unfolding class_of
returns-in_err-opening g c = first_of (grind (arith, reading), search rules)

pub returns-in_err-arguments : goal.returns-in_err-arguments
unfolding class_of
returns-in_err-arguments g c = first_of (grind (arith, reading), search rules)

pub returns-in_err-closing : goal.returns-in_err-closing
unfolding class_of
returns-in_err-closing g c = first_of (grind (arith, reading), search rules)

pub returns : goal.returns
unfolding class_of
returns g c = first_of (grind (arith, reading), search rules)
