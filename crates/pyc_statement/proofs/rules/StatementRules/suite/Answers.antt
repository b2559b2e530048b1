use Rattle.pyc_tree.specs.Headers.{suite}
use Rattle.pyc_statement.proofs.ReadingSteps.{reading}
use Rattle.std.proofs.Common.{arith, rules}
use Rattle.pyc_statement.proofs.rules.StatementRules.suite.Goals as goal

pub returns-in_err-colon : goal.returns-in_err-colon
unfolding suite
returns-in_err-colon g c = first_of (grind (arith, reading), search rules)

pub returns-then-at_end : goal.returns-then-at_end
unfolding suite
returns-then-at_end g c = first_of (grind (arith, reading), search rules)

pub returns-in_err-statements : goal.returns-in_err-statements
unfolding suite
returns-in_err-statements g c = first_of (grind (arith, reading), search rules)

pub returns : goal.returns
unfolding suite
returns g c = first_of (grind (arith, reading), search rules)
