use Rattle.pyc_tree.specs.Headers.{condition}
use Rattle.pyc_statement.proofs.ReadingSteps.{reading}
use Rattle.std.proofs.Common.{arith, rules}
use Rattle.pyc_statement.proofs.rules.StatementRules.condition.Goals as goal

pub returns-in_err-word : goal.returns-in_err-word
unfolding condition
returns-in_err-word g c = first_of (grind (arith, reading), search rules)

pub returns-in_err-test : goal.returns-in_err-test
unfolding condition
returns-in_err-test g c = first_of (grind (arith, reading), search rules)

pub returns : goal.returns
unfolding condition
returns g c = first_of (grind (arith, reading), search rules)
