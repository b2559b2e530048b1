use Rattle.pyc_tree.specs.Headers.{headed}
use Rattle.pyc_statement.proofs.ReadingSteps.{reading}
use Rattle.std.proofs.Common.{arith, rules}
use Rattle.pyc_statement.proofs.rules.StatementRules.line_by_keyword.Goals as goal

pub returns-in_err-header-in-If : goal.returns-in_err-header-in-If
unfolding headed
returns-in_err-header-in-If g c = first_of (grind (arith, reading), search rules)

pub returns-in_err-header-in-Else : goal.returns-in_err-header-in-Else
unfolding headed
returns-in_err-header-in-Else g c = first_of (grind (arith, reading), search rules)

pub returns-in_err-header-in-For : goal.returns-in_err-header-in-For
unfolding headed
returns-in_err-header-in-For g c = first_of (grind (arith, reading), search rules)

pub returns-in_err-header-in-Except : goal.returns-in_err-header-in-Except
unfolding headed
returns-in_err-header-in-Except g c = first_of (grind (arith, reading), search rules)

pub returns-in_err-header-in-With : goal.returns-in_err-header-in-With
unfolding headed
returns-in_err-header-in-With g c = first_of (grind (arith, reading), search rules)

pub returns-in_err-header-in-Def : goal.returns-in_err-header-in-Def
unfolding headed
returns-in_err-header-in-Def g c = first_of (grind (arith, reading), search rules)

pub returns-in_err-header-in-Class : goal.returns-in_err-header-in-Class
unfolding headed
returns-in_err-header-in-Class g c = first_of (grind (arith, reading), search rules)

pub returns-in_err-header-in-Async : goal.returns-in_err-header-in-Async
unfolding headed
returns-in_err-header-in-Async g c = first_of (grind (arith, reading), search rules)

pub returns-in_default : goal.returns-in_default
unfolding headed
returns-in_default g c = first_of (grind (arith, reading), search rules)

pub returns : goal.returns
unfolding headed
returns g c = first_of (grind (arith, reading), search rules)
