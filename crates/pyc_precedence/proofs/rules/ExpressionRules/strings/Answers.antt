use Rattle.pyc_tree.specs.Expressions.{strings}
use Rattle.pyc_build.proofs.Steps.{ReadsTokens_made}
use Rattle.std.proofs.Common.{arith, rules}
use Rattle.pyc_precedence.proofs.rules.ExpressionRules.strings.Goals as goal

pub returns-in_err-first : goal.returns-in_err-first
unfolding strings
returns-in_err-first g c = first_of (grind (arith, ReadsTokens_made), search rules)

pub returns-in_err-more : goal.returns-in_err-more
unfolding strings
returns-in_err-more g c = first_of (grind (arith, ReadsTokens_made), search rules)

pub returns-then-are_joined : goal.returns-then-are_joined
unfolding strings
returns-then-are_joined g c = first_of (grind (arith, ReadsTokens_made), search rules)

pub returns-else-are_joined : goal.returns-else-are_joined
unfolding strings
returns-else-are_joined g c = first_of (grind (arith, ReadsTokens_made), search rules)
