use Rattle.pyc_tree.specs.Expressions.{parentheses}
use Rattle.pyc_build.proofs.Steps.{ReadsTokens_made}
use Rattle.std.proofs.Common.{arith, rules}
use Rattle.pyc_precedence.proofs.rules.ExpressionRules.parentheses.Goals as goal

pub returns-in_err-opening : goal.returns-in_err-opening
unfolding parentheses
returns-in_err-opening g c = first_of (grind (arith, ReadsTokens_made), search rules)

pub returns-then-same_kind : goal.returns-then-same_kind
unfolding parentheses
returns-then-same_kind g c = first_of (grind (arith, ReadsTokens_made), search rules)

pub returns-then-same_kind-2 : goal.returns-then-same_kind-2
unfolding parentheses
returns-then-same_kind-2 g c = first_of (grind (arith, ReadsTokens_made), search rules)

pub returns-else-same_kind-2 : goal.returns-else-same_kind-2
unfolding parentheses
returns-else-same_kind-2 g c = first_of (grind (arith, ReadsTokens_made), search rules)
