use Rattle.pyc_tree.specs.SimpleStatements.{given}
use Rattle.pyc_statement.proofs.ReadingSteps.{reading}
use Rattle.std.proofs.Common.{arith, rules}
use Rattle.pyc_statement.proofs.rules.StatementRules.given.Goals as goal

pub returns-in_err-mark : goal.returns-in_err-mark
unfolding given
returns-in_err-mark g c = first_of (grind (arith, reading), search rules)

pub returns-in_err-value : goal.returns-in_err-value
unfolding given
returns-in_err-value g c = first_of (grind (arith, reading), search rules)

pub returns-in_ok-value : goal.returns-in_ok-value
unfolding given
returns-in_ok-value g c = first_of (grind (arith, reading), search rules)

pub returns-else-same_kind : goal.returns-else-same_kind
unfolding given
returns-else-same_kind g c = first_of (grind (arith, reading), search rules)
