use Rattle.pyc_tree.specs.Headers.{class}
use Rattle.pyc_statement.proofs.ReadingSteps.{reading}
use Rattle.std.proofs.Common.{arith, rules}
use Rattle.pyc_statement.proofs.rules.StatementRules.class.Goals as goal

pub returns-in_err-word : goal.returns-in_err-word
unfolding class
returns-in_err-word g c = first_of (grind (arith, reading), search rules)

pub returns-in_err-name : goal.returns-in_err-name
unfolding class
returns-in_err-name g c = first_of (grind (arith, reading), search rules)

pub returns-then-same_kind : goal.returns-then-same_kind
unfolding class
returns-then-same_kind g c = first_of (grind (arith, reading), search rules)

pub returns-else-same_kind : goal.returns-else-same_kind
unfolding class
returns-else-same_kind g c = first_of (grind (arith, reading), search rules)
