use Rattle.pyc_tree.specs.Expressions.{attribute}
use Rattle.pyc_build.proofs.Steps.{ReadsTokens_made}
use Rattle.std.proofs.Common.{arith, rules}
use Rattle.pyc_precedence.proofs.rules.ExpressionRules.attribute.Goals as goal

pub returns-in_err-dot : goal.returns-in_err-dot
unfolding attribute
returns-in_err-dot g c = first_of (grind (arith, ReadsTokens_made), search rules)

pub returns-in_err-name : goal.returns-in_err-name
unfolding attribute
returns-in_err-name g c = first_of (grind (arith, ReadsTokens_made), search rules)

pub returns : goal.returns
unfolding attribute
returns g c = first_of (grind (arith, ReadsTokens_made), search rules)
