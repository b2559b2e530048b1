use Rattle.pyc_tree.specs.Items.{double_starred}
use Rattle.pyc_build.proofs.Steps.{ReadsTokens_made}
use Rattle.std.proofs.Common.{arith, rules}
use Rattle.pyc_list_rules.proofs.rules.ItemRules.double_starred.Goals as goal

pub returns-in_err-stars : goal.returns-in_err-stars
unfolding double_starred
returns-in_err-stars g c = first_of (grind (arith, ReadsTokens_made), search rules)

pub returns-in_err-operand : goal.returns-in_err-operand
unfolding double_starred
returns-in_err-operand g c = first_of (grind (arith, ReadsTokens_made), search rules)

pub returns : goal.returns
unfolding double_starred
returns g c = first_of (grind (arith, ReadsTokens_made), search rules)
