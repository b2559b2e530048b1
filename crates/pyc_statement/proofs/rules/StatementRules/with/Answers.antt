use Rattle.pyc_tree.specs.Headers.{with}
use Rattle.pyc_statement.proofs.ReadingSteps.{reading}
use Rattle.std.proofs.Common.{arith, rules}
use Rattle.pyc_statement.proofs.rules.StatementRules.with.Goals as goal

pub returns-in_err-word : goal.returns-in_err-word
unfolding with
returns-in_err-word g c = first_of (grind (arith, reading), search rules)

pub returns-in-Ok : goal.returns-in-Ok
unfolding with
returns-in-Ok g c = first_of (grind (arith, reading), search rules)

pub returns-in-Err-Memory : goal.returns-in-Err-Memory
unfolding with
returns-in-Err-Memory g c = first_of (grind (arith, reading), search rules)

pub returns-in-Err-Refused : goal.returns-in-Err-Refused
unfolding with
returns-in-Err-Refused g c = first_of (grind (arith, reading), search rules)
