use Rattle.pyc_tree.specs.Items.{argument}
use Rattle.pyc_build.proofs.Steps.{ReadsTokens_made}
use Rattle.std.proofs.Common.{arith, rules}
use Rattle.pyc_list_rules.proofs.rules.ItemRules.argument.Goals as goal

pub returns-in_err-value : goal.returns-in_err-value
unfolding argument
returns-in_err-value g c = first_of (grind (arith, ReadsTokens_made), search rules)

pub returns-then-same_kind : goal.returns-then-same_kind
unfolding argument
returns-then-same_kind g c = first_of (grind (arith, ReadsTokens_made), search rules)

pub returns-else-same_kind : goal.returns-else-same_kind
unfolding argument
returns-else-same_kind g c = first_of (grind (arith, ReadsTokens_made), search rules)
