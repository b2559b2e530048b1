use Rattle.pyc_tree.specs.Items.{tail}
use Rattle.pyc_build.proofs.Steps.{ReadsTokens_made}
use Rattle.std.proofs.Common.{arith, rules}
use Rattle.pyc_list_rules.proofs.rules.ItemRules.tail.Goals as goal

pub returns-in_err-mark : goal.returns-in_err-mark
unfolding tail
returns-in_err-mark g c = first_of (grind (arith, ReadsTokens_made), search rules)

pub returns-in_err-value : goal.returns-in_err-value
unfolding tail
returns-in_err-value g c = first_of (grind (arith, ReadsTokens_made), search rules)

pub returns-in_ok-value : goal.returns-in_ok-value
unfolding tail
returns-in_ok-value g c = first_of (grind (arith, ReadsTokens_made), search rules)

pub returns-else-same_kind : goal.returns-else-same_kind
unfolding tail
returns-else-same_kind g c = first_of (grind (arith, ReadsTokens_made), search rules)
