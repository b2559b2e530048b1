use Rattle.pyc_tree.specs.Items.{yield_value}
use Rattle.pyc_build.proofs.Steps.{ReadsTokens_made}
use Rattle.std.proofs.Common.{arith, rules}
use Rattle.pyc_list_rules.proofs.rules.ItemRules.yield_value.Goals as goal

pub returns-in_err-value : goal.returns-in_err-value
unfolding yield_value
returns-in_err-value g c = first_of (grind (arith, ReadsTokens_made), search rules)

pub returns : goal.returns
unfolding yield_value
returns g c = first_of (grind (arith, ReadsTokens_made), search rules)
