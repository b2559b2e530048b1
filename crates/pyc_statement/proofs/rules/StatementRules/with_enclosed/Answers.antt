use Rattle.pyc_tree.specs.Headers.{with_enclosed}
use Rattle.pyc_statement.proofs.ReadingSteps.{reading}
use Rattle.std.proofs.Common.{arith, rules}
use Rattle.pyc_statement.proofs.rules.StatementRules.with_enclosed.Goals as goal

pub returns-in_err-opening : goal.returns-in_err-opening
unfolding with_enclosed
returns-in_err-opening g c = first_of (grind (arith, reading), search rules)

pub returns-in_err-items : goal.returns-in_err-items
unfolding with_enclosed
returns-in_err-items g c = first_of (grind (arith, reading), search rules)

pub returns-in_err-closing : goal.returns-in_err-closing
unfolding with_enclosed
returns-in_err-closing g c = first_of (grind (arith, reading), search rules)

pub returns-then-not-is_colon : goal.returns-then-not-is_colon
unfolding with_enclosed
returns-then-not-is_colon g c = first_of (grind (arith, reading), search rules)

pub returns : goal.returns
unfolding with_enclosed
returns g c = first_of (grind (arith, reading), search rules)
