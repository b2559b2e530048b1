use Rattle.pyc_tree.specs.Headers.{decorator}
use Rattle.pyc_statement.proofs.ReadingSteps.{reading}
use Rattle.std.proofs.Common.{arith, rules}
use Rattle.pyc_statement.proofs.rules.StatementRules.decorator.Goals as goal

pub returns-in_err-mark : goal.returns-in_err-mark
unfolding decorator
returns-in_err-mark g c = first_of (grind (arith, reading), search rules)

pub returns-in_err-value : goal.returns-in_err-value
unfolding decorator
returns-in_err-value g c = first_of (grind (arith, reading), search rules)

pub returns : goal.returns
unfolding decorator
returns g c = first_of (grind (arith, reading), search rules)
