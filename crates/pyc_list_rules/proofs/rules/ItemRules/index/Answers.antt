use Rattle.pyc_tree.specs.Items.{index}
use Rattle.pyc_build.proofs.Steps.{ReadsTokens_made}
use Rattle.std.proofs.Common.{arith, rules}
use Rattle.pyc_list_rules.proofs.rules.ItemRules.index.Goals as goal

pub returns-then-is_colon : goal.returns-then-is_colon
unfolding index
returns-then-is_colon g c = first_of (grind (arith, ReadsTokens_made), search rules)

pub returns-in_err-value : goal.returns-in_err-value
unfolding index
returns-in_err-value g c = first_of (grind (arith, ReadsTokens_made), search rules)

pub returns-then-is_colon-2 : goal.returns-then-is_colon-2
unfolding index
returns-then-is_colon-2 g c = first_of (grind (arith, ReadsTokens_made), search rules)

pub returns-else-is_colon-2 : goal.returns-else-is_colon-2
unfolding index
returns-else-is_colon-2 g c = first_of (grind (arith, ReadsTokens_made), search rules)
