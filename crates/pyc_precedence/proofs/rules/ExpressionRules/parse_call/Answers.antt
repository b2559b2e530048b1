use Rattle.pyc_tree.specs.Items.{parse_call}
use Rattle.pyc_build.proofs.Steps.{ReadsTokens_made}
use Rattle.std.proofs.Common.{arith, rules}
use Rattle.pyc_precedence.proofs.rules.ExpressionRules.parse_call.Goals as goal

pub returns-in_err-opening : goal.returns-in_err-opening
unfolding parse_call
returns-in_err-opening g c = first_of (grind (arith, ReadsTokens_made), search rules)

pub returns-then-same_kind : goal.returns-then-same_kind
unfolding parse_call
returns-then-same_kind g c = first_of (grind (arith, ReadsTokens_made), search rules)

pub returns-else-same_kind : goal.returns-else-same_kind
unfolding parse_call
returns-else-same_kind g c = first_of (grind (arith, ReadsTokens_made), search rules)
