use Rattle.pyc_tree.specs.Expressions.{lambda}
use Rattle.pyc_build.proofs.Steps.{ReadsTokens_made}
use Rattle.std.proofs.Common.{arith, rules}
use Rattle.pyc_precedence.proofs.rules.ExpressionRules.lambda.Goals as goal

pub returns-then-loosest-gt1 : goal.returns-then-loosest-gt1
unfolding lambda
returns-then-loosest-gt1 g c = first_of (grind (arith, ReadsTokens_made), search rules)

pub returns-in_err-word : goal.returns-in_err-word
unfolding lambda
returns-in_err-word g c = first_of (grind (arith, ReadsTokens_made), search rules)

pub returns-in_err-parameters : goal.returns-in_err-parameters
unfolding lambda
returns-in_err-parameters g c = first_of (grind (arith, ReadsTokens_made), search rules)

pub returns-in_err-colon : goal.returns-in_err-colon
unfolding lambda
returns-in_err-colon g c = first_of (grind (arith, ReadsTokens_made), search rules)

pub returns-in_err-body : goal.returns-in_err-body
unfolding lambda
returns-in_err-body g c = first_of (grind (arith, ReadsTokens_made), search rules)

pub returns : goal.returns
unfolding lambda
returns g c = first_of (grind (arith, ReadsTokens_made), search rules)
