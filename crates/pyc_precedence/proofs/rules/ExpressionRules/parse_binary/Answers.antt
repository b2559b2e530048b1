use Rattle.pyc_tree.specs.Expressions.{parse_binary}
use Rattle.pyc_build.proofs.Steps.{ReadsTokens_made}
use Rattle.std.proofs.Common.{arith, rules}
use Rattle.pyc_precedence.proofs.rules.ExpressionRules.parse_binary.Goals as goal

pub returns-in_err-operator : goal.returns-in_err-operator
unfolding parse_binary
returns-in_err-operator g c = first_of (grind (arith, ReadsTokens_made), search rules)

pub returns-in_err-right : goal.returns-in_err-right
unfolding parse_binary
returns-in_err-right g c = first_of (grind (arith, ReadsTokens_made), search rules)

pub returns : goal.returns
unfolding parse_binary
returns g c = first_of (grind (arith, ReadsTokens_made), search rules)
