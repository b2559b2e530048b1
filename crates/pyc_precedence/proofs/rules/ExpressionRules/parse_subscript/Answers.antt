use Rattle.pyc_tree.specs.Items.{parse_subscript}
use Rattle.pyc_build.proofs.Steps.{ReadsTokens_made}
use Rattle.std.proofs.Common.{arith, rules}
use Rattle.pyc_precedence.proofs.rules.ExpressionRules.parse_subscript.Goals as goal

pub returns-in_err-opening : goal.returns-in_err-opening
unfolding parse_subscript
returns-in_err-opening g c = first_of (grind (arith, ReadsTokens_made), search rules)

pub returns-in_err-first : goal.returns-in_err-first
unfolding parse_subscript
returns-in_err-first g c = first_of (grind (arith, ReadsTokens_made), search rules)

pub returns-in_err-indices : goal.returns-in_err-indices
unfolding parse_subscript
returns-in_err-indices g c = first_of (grind (arith, ReadsTokens_made), search rules)

pub returns-in_err-closing : goal.returns-in_err-closing
unfolding parse_subscript
returns-in_err-closing g c = first_of (grind (arith, ReadsTokens_made), search rules)

pub returns : goal.returns
unfolding parse_subscript
returns g c = first_of (grind (arith, ReadsTokens_made), search rules)
