use Rattle.pyc_tree.specs.Headers.{with_items}
use Rattle.pyc_statement.proofs.ReadingSteps.{reading}
use Rattle.std.proofs.Common.{arith, rules}
use Rattle.pyc_statement.proofs.rules.StatementRules.with_items.Goals as goal

pub returns-in_err-first : goal.returns-in_err-first
unfolding with_items
returns-in_err-first g c = first_of (grind (arith, reading), search rules)

pub returns : goal.returns
unfolding with_items
returns g c = first_of (grind (arith, reading), search rules)
