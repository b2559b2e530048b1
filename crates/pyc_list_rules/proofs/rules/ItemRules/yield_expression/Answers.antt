use Rattle.pyc_tree.specs.Items.{yield_expression}
use Rattle.pyc_build.proofs.Steps.{ReadsTokens_made}
use Rattle.std.proofs.Common.{arith, rules}
use Rattle.pyc_list_rules.proofs.rules.ItemRules.yield_expression.Goals as goal

pub returns-in_err-word : goal.returns-in_err-word
unfolding yield_expression
returns-in_err-word g c = first_of (grind (arith, ReadsTokens_made), search rules)

pub returns-then-same_kind : goal.returns-then-same_kind
unfolding yield_expression
returns-then-same_kind g c = first_of (grind (arith, ReadsTokens_made), search rules)

pub returns-then-begins : goal.returns-then-begins
unfolding yield_expression
returns-then-begins g c = first_of (grind (arith, ReadsTokens_made), search rules)

pub returns-else-begins : goal.returns-else-begins
unfolding yield_expression
returns-else-begins g c = first_of (grind (arith, ReadsTokens_made), search rules)
