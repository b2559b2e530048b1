use Rattle.pyc_tree.specs.Items.{starred}
use Rattle.pyc_build.proofs.Steps.{ReadsTokens_made}
use Rattle.std.proofs.Common.{arith, rules}
use Rattle.pyc_list_rules.proofs.rules.ItemRules.starred.Goals as goal

pub returns-in_err-star : goal.returns-in_err-star
unfolding starred
returns-in_err-star g c = first_of (grind (arith, ReadsTokens_made), search rules)

pub returns-in_err-operand : goal.returns-in_err-operand
unfolding starred
returns-in_err-operand g c = first_of (grind (arith, ReadsTokens_made), search rules)

pub returns : goal.returns
unfolding starred
returns g c = first_of (grind (arith, ReadsTokens_made), search rules)
