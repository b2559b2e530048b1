use Rattle.pyc_tree.specs.Expressions.{parse_unary}
use Rattle.pyc_build.proofs.Steps.{ReadsTokens_made}
use Rattle.std.proofs.Common.{arith, rules}
use Rattle.pyc_precedence.proofs.rules.ExpressionRules.parse_unary.Goals as goal

pub returns-then-own-loosest : goal.returns-then-own-loosest
unfolding parse_unary
returns-then-own-loosest g c = first_of (grind (arith, ReadsTokens_made), search rules)

pub returns-in_err-sign : goal.returns-in_err-sign
unfolding parse_unary
returns-in_err-sign g c = first_of (grind (arith, ReadsTokens_made), search rules)

pub returns-in_err-operand : goal.returns-in_err-operand
unfolding parse_unary
returns-in_err-operand g c = first_of (grind (arith, ReadsTokens_made), search rules)

pub returns : goal.returns
unfolding parse_unary
returns g c = first_of (grind (arith, ReadsTokens_made), search rules)
