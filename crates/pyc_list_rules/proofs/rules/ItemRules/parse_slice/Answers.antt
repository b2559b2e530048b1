use Rattle.pyc_tree.specs.Items.{parse_slice}
use Rattle.pyc_build.proofs.Steps.{ReadsTokens_made}
use Rattle.std.proofs.Common.{arith, rules}
use Rattle.pyc_list_rules.proofs.rules.ItemRules.parse_slice.Goals as goal

pub returns-in_err-colon : goal.returns-in_err-colon
unfolding parse_slice
returns-in_err-colon g c = first_of (grind (arith, ReadsTokens_made), search rules)

pub returns-in_err-upper : goal.returns-in_err-upper
unfolding parse_slice
returns-in_err-upper g c = first_of (grind (arith, ReadsTokens_made), search rules)

pub returns-in_err-second : goal.returns-in_err-second
unfolding parse_slice
returns-in_err-second g c = first_of (grind (arith, ReadsTokens_made), search rules)

pub returns-in_err-step : goal.returns-in_err-step
unfolding parse_slice
returns-in_err-step g c = first_of (grind (arith, ReadsTokens_made), search rules)

pub returns-in_ok-step : goal.returns-in_ok-step
unfolding parse_slice
returns-in_ok-step g c = first_of (grind (arith, ReadsTokens_made), search rules)

pub returns-else-is_colon : goal.returns-else-is_colon
unfolding parse_slice
returns-else-is_colon g c = first_of (grind (arith, ReadsTokens_made), search rules)
