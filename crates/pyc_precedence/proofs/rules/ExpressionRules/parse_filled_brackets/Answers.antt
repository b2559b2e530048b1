use Rattle.pyc_tree.specs.Items.{parse_filled_brackets}
use Rattle.pyc_build.proofs.Steps.{ReadsTokens_made}
use Rattle.std.proofs.Common.{arith, rules}
use Rattle.pyc_precedence.proofs.rules.ExpressionRules.parse_filled_brackets.Goals as goal

pub returns-in_err-first : goal.returns-in_err-first
unfolding parse_filled_brackets
returns-in_err-first g c = first_of (grind (arith, ReadsTokens_made), search rules)

pub returns-then-begins_comprehension : goal.returns-then-begins_comprehension
unfolding parse_filled_brackets
returns-then-begins_comprehension g c = first_of (grind (arith, ReadsTokens_made), search rules)

pub returns-else-begins_comprehension : goal.returns-else-begins_comprehension
unfolding parse_filled_brackets
returns-else-begins_comprehension g c = first_of (grind (arith, ReadsTokens_made), search rules)
