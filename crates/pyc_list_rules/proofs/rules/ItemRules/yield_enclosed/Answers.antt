use Rattle.pyc_tree.specs.Items.{yield_enclosed}
use Rattle.pyc_build.proofs.Steps.{ReadsTokens_made}
use Rattle.std.proofs.Common.{arith, rules}
use Rattle.pyc_list_rules.proofs.rules.ItemRules.yield_enclosed.Goals as goal

pub returns-in_err-value : goal.returns-in_err-value
unfolding yield_enclosed
returns-in_err-value g c = first_of (grind (arith, ReadsTokens_made), search rules)

pub returns-in_err-closing : goal.returns-in_err-closing
unfolding yield_enclosed
returns-in_err-closing g c = first_of (grind (arith, ReadsTokens_made), search rules)

pub returns : goal.returns
unfolding yield_enclosed
returns g c = first_of (grind (arith, ReadsTokens_made), search rules)
