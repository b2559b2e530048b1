use Rattle.pyc_tree.specs.Items.{item}
use Rattle.pyc_build.proofs.Steps.{ReadsTokens_made}
use Rattle.std.proofs.Common.{arith, rules}
use Rattle.pyc_list_rules.proofs.rules.ItemRules.item.Goals as goal

pub returns-in_err-item : goal.returns-in_err-item
unfolding item
returns-in_err-item g c = first_of (grind (arith, ReadsTokens_made), search rules)

pub returns-then-fits : goal.returns-then-fits
unfolding item
returns-then-fits g c = first_of (grind (arith, ReadsTokens_made), search rules)

pub returns-else-fits : goal.returns-else-fits
unfolding item
returns-else-fits g c = first_of (grind (arith, ReadsTokens_made), search rules)
