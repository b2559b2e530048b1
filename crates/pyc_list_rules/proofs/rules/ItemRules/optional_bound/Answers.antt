use Rattle.pyc_tree.specs.Items.{optional_bound}
use Rattle.pyc_build.proofs.Steps.{ReadsTokens_made}
use Rattle.std.proofs.Common.{arith, rules}
use Rattle.pyc_list_rules.proofs.rules.ItemRules.optional_bound.Goals as goal

pub returns-in_err-value : goal.returns-in_err-value
unfolding optional_bound
returns-in_err-value g c = first_of (grind (arith, ReadsTokens_made), search rules)

pub returns-in_ok-value : goal.returns-in_ok-value
unfolding optional_bound
returns-in_ok-value g c = first_of (grind (arith, ReadsTokens_made), search rules)

pub returns-else-begins_expression : goal.returns-else-begins_expression
unfolding optional_bound
returns-else-begins_expression g c = first_of (grind (arith, ReadsTokens_made), search rules)
