use Rattle.pyc_tree.specs.Items.{element_or_entry}
use Rattle.pyc_build.proofs.Steps.{ReadsTokens_made}
use Rattle.std.proofs.Common.{arith, rules}
use Rattle.pyc_list_rules.proofs.rules.ItemRules.element_or_entry.Goals as goal

pub returns-in_err-key : goal.returns-in_err-key
unfolding element_or_entry
returns-in_err-key g c = first_of (grind (arith, ReadsTokens_made), search rules)

pub returns-in_err-colon : goal.returns-in_err-colon
unfolding element_or_entry
returns-in_err-colon g c = first_of (grind (arith, ReadsTokens_made), search rules)

pub returns-in_err-value : goal.returns-in_err-value
unfolding element_or_entry
returns-in_err-value g c = first_of (grind (arith, ReadsTokens_made), search rules)

pub returns-in_ok-value : goal.returns-in_ok-value
unfolding element_or_entry
returns-in_ok-value g c = first_of (grind (arith, ReadsTokens_made), search rules)

pub returns-else-is_colon : goal.returns-else-is_colon
unfolding element_or_entry
returns-else-is_colon g c = first_of (grind (arith, ReadsTokens_made), search rules)
