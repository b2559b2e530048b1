use Rattle.pyc_tree.specs.Headers.{with_unenclosed}
use Rattle.pyc_statement.proofs.ReadingSteps.{reading}
use Rattle.std.proofs.Common.{arith, rules}
use Rattle.pyc_statement.proofs.rules.StatementRules.with_unenclosed.Goals as goal

pub returns-in_err-items : goal.returns-in_err-items
unfolding with_unenclosed
returns-in_err-items g c = first_of (grind (arith, reading), search rules)

pub returns-then-not-ends_without_comma : goal.returns-then-not-ends_without_comma
unfolding with_unenclosed
returns-then-not-ends_without_comma g c = first_of (grind (arith, reading), search rules)

pub returns : goal.returns
unfolding with_unenclosed
returns g c = first_of (grind (arith, reading), search rules)
