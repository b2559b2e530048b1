use Rattle.pyc_tree.specs.Expressions.{await_expression}
use Rattle.pyc_build.proofs.Steps.{ReadsTokens_made}
use Rattle.std.proofs.Common.{arith, rules}
use Rattle.pyc_precedence.proofs.rules.ExpressionRules.await_expression.Goals as goal

pub returns-then-loosest-gt14 : goal.returns-then-loosest-gt14
unfolding await_expression
returns-then-loosest-gt14 g c = first_of (grind (arith, ReadsTokens_made), search rules)

pub returns-in_err-word : goal.returns-in_err-word
unfolding await_expression
returns-in_err-word g c = first_of (grind (arith, ReadsTokens_made), search rules)

pub returns-in_err-operand : goal.returns-in_err-operand
unfolding await_expression
returns-in_err-operand g c = first_of (grind (arith, ReadsTokens_made), search rules)

pub returns : goal.returns
unfolding await_expression
returns g c = first_of (grind (arith, ReadsTokens_made), search rules)
