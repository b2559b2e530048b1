use Rattle.pyc_tree.specs.Expressions.{conditional}
use Rattle.pyc_build.proofs.Steps.{ReadsTokens_made}
use Rattle.std.proofs.Common.{arith, rules}
use Rattle.pyc_precedence.proofs.rules.ExpressionRules.conditional.Goals as goal

pub returns-in_err-word_if : goal.returns-in_err-word_if
unfolding conditional
returns-in_err-word_if g c = first_of (grind (arith, ReadsTokens_made), search rules)

pub returns-in_err-test : goal.returns-in_err-test
unfolding conditional
returns-in_err-test g c = first_of (grind (arith, ReadsTokens_made), search rules)

pub returns-in_err-word_else : goal.returns-in_err-word_else
unfolding conditional
returns-in_err-word_else g c = first_of (grind (arith, ReadsTokens_made), search rules)

pub returns-in_err-other : goal.returns-in_err-other
unfolding conditional
returns-in_err-other g c = first_of (grind (arith, ReadsTokens_made), search rules)

pub returns : goal.returns
unfolding conditional
returns g c = first_of (grind (arith, ReadsTokens_made), search rules)
