use Rattle.pyc_tree.specs.Items.{optional_items}
use Rattle.pyc_build.proofs.Steps.{ReadsTokens_made}
use Rattle.std.proofs.Common.{arith, rules}
use Rattle.pyc_list_rules.proofs.rules.ItemRules.optional_items.Goals as goal

pub returns-in_err-first : goal.returns-in_err-first
unfolding optional_items
returns-in_err-first g c = first_of (grind (arith, ReadsTokens_made), search rules)

pub returns-in_ok-first : goal.returns-in_ok-first
unfolding optional_items
returns-in_ok-first g c = first_of (grind (arith, ReadsTokens_made), search rules)

pub returns-else-begins : goal.returns-else-begins
unfolding optional_items
returns-else-begins g c = first_of (grind (arith, ReadsTokens_made), search rules)
