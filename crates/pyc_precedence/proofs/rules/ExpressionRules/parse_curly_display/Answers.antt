use Rattle.pyc_tree.specs.Items.{parse_display}
use Rattle.pyc_build.proofs.Steps.{ReadsTokens_made}
use Rattle.std.proofs.Common.{arith, rules}
use Rattle.pyc_precedence.proofs.rules.ExpressionRules.parse_curly_display.Goals as goal

pub returns-in_err-found : goal.returns-in_err-found
unfolding parse_display
returns-in_err-found g c = first_of (grind (arith, ReadsTokens_made), search rules)

pub returns-in_err-closing : goal.returns-in_err-closing
unfolding parse_display
returns-in_err-closing g c = first_of (grind (arith, ReadsTokens_made), search rules)

pub returns : goal.returns
unfolding parse_display
returns g c = first_of (grind (arith, ReadsTokens_made), search rules)
