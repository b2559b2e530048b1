use Rattle.pyc_tree.specs.Headers.{except_header}
use Rattle.pyc_statement.proofs.ReadingSteps.{reading}
use Rattle.std.proofs.Common.{arith, rules}
use Rattle.pyc_statement.proofs.rules.StatementRules.except_header.Goals as goal

pub returns-in_err-word : goal.returns-in_err-word
unfolding except_header
returns-in_err-word g c = first_of (grind (arith, reading), search rules)

pub returns-then-is_colon : goal.returns-then-is_colon
unfolding except_header
returns-then-is_colon g c = first_of (grind (arith, reading), search rules)

pub returns-in_err-caught : goal.returns-in_err-caught
unfolding except_header
returns-in_err-caught g c = first_of (grind (arith, reading), search rules)

pub returns-in_err-alias : goal.returns-in_err-alias
unfolding except_header
returns-in_err-alias g c = first_of (grind (arith, reading), search rules)

pub returns : goal.returns
unfolding except_header
returns g c = first_of (grind (arith, reading), search rules)
