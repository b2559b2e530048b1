use Rattle.pyc_tree.specs.Items.{with_item}
use Rattle.pyc_build.proofs.Steps.{ReadsTokens_made}
use Rattle.std.proofs.Common.{arith, rules}
use Rattle.pyc_list_rules.proofs.rules.ItemRules.with_item.Goals as goal

pub returns-in_err-value : goal.returns-in_err-value
unfolding with_item
returns-in_err-value g c = first_of (grind (arith, ReadsTokens_made), search rules)

pub returns-then-same_kind : goal.returns-then-same_kind
unfolding with_item
returns-then-same_kind g c = first_of (grind (arith, ReadsTokens_made), search rules)

pub returns-else-same_kind : goal.returns-else-same_kind
unfolding with_item
returns-else-same_kind g c = first_of (grind (arith, ReadsTokens_made), search rules)
