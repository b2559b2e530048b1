use Rattle.pyc_tree.specs.Items.{parse_comprehension_display}
use Rattle.pyc_build.proofs.Steps.{ReadsTokens_made}
use Rattle.std.proofs.Common.{arith, rules}
use Rattle.pyc_precedence.proofs.rules.ExpressionRules.parse_comprehension_display.Goals as goal

pub returns-in_err-comprehensions : goal.returns-in_err-comprehensions
unfolding parse_comprehension_display
returns-in_err-comprehensions g c = first_of (grind (arith, ReadsTokens_made), search rules)

pub returns-in_err-closing : goal.returns-in_err-closing
unfolding parse_comprehension_display
returns-in_err-closing g c = first_of (grind (arith, ReadsTokens_made), search rules)

pub returns-then-is_element : goal.returns-then-is_element
unfolding parse_comprehension_display
returns-then-is_element g c = first_of (grind (arith, ReadsTokens_made), search rules)

pub returns-else-is_element : goal.returns-else-is_element
unfolding parse_comprehension_display
returns-else-is_element g c = first_of (grind (arith, ReadsTokens_made), search rules)
