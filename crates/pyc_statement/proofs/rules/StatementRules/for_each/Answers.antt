use Rattle.pyc_tree.specs.Headers.{for_each}
use Rattle.pyc_statement.proofs.ReadingSteps.{reading}
use Rattle.std.proofs.Common.{arith, rules}
use Rattle.pyc_statement.proofs.rules.StatementRules.for_each.Goals as goal

pub returns-in_err-word : goal.returns-in_err-word
unfolding for_each
returns-in_err-word g c = first_of (grind (arith, reading), search rules)

pub returns-in_err-targets : goal.returns-in_err-targets
unfolding for_each
returns-in_err-targets g c = first_of (grind (arith, reading), search rules)

pub returns-in_err-word_in : goal.returns-in_err-word_in
unfolding for_each
returns-in_err-word_in g c = first_of (grind (arith, reading), search rules)

pub returns-in_err-iterated : goal.returns-in_err-iterated
unfolding for_each
returns-in_err-iterated g c = first_of (grind (arith, reading), search rules)

pub returns : goal.returns
unfolding for_each
returns g c = first_of (grind (arith, reading), search rules)
