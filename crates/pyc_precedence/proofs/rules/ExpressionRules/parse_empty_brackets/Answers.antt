use Rattle.pyc_tree.specs.Items.{parse_empty_brackets}
use Rattle.pyc_build.proofs.Steps.{ReadsTokens_made}
use Rattle.std.proofs.Common.{arith, rules}
use Rattle.pyc_precedence.proofs.rules.ExpressionRules.parse_empty_brackets.Goals as goal

pub returns-in_err-closing : goal.returns-in_err-closing
unfolding parse_empty_brackets
returns-in_err-closing g c = first_of (grind (arith, ReadsTokens_made), search rules)

pub returns : goal.returns
unfolding parse_empty_brackets
returns g c = first_of (grind (arith, ReadsTokens_made), search rules)
