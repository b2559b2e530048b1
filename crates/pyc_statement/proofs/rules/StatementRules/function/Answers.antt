use Rattle.pyc_tree.specs.Headers.{function}
use Rattle.pyc_statement.proofs.ReadingSteps.{reading}
use Rattle.std.proofs.Common.{arith, rules}
use Rattle.pyc_statement.proofs.rules.StatementRules.function.Goals as goal

pub returns-in_err-word : goal.returns-in_err-word
unfolding function
returns-in_err-word g c = first_of (grind (arith, reading), search rules)

pub returns-in_err-name : goal.returns-in_err-name
unfolding function
returns-in_err-name g c = first_of (grind (arith, reading), search rules)

pub returns-in_err-opening : goal.returns-in_err-opening
unfolding function
returns-in_err-opening g c = first_of (grind (arith, reading), search rules)

pub returns-in_err-parameters : goal.returns-in_err-parameters
unfolding function
returns-in_err-parameters g c = first_of (grind (arith, reading), search rules)

pub returns-in_err-closing : goal.returns-in_err-closing
unfolding function
returns-in_err-closing g c = first_of (grind (arith, reading), search rules)

pub returns-in_err-return_type : goal.returns-in_err-return_type
unfolding function
returns-in_err-return_type g c = first_of (grind (arith, reading), search rules)

pub returns : goal.returns
unfolding function
returns g c = first_of (grind (arith, reading), search rules)
