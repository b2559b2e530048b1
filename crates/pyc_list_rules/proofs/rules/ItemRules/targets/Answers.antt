use Rattle.pyc_tree.specs.Items.{targets}
use Rattle.pyc_build.proofs.Steps.{ReadsTokens_made}
use Rattle.std.proofs.Common.{arith, rules}
use Rattle.pyc_list_rules.proofs.rules.ItemRules.targets.Goals as goal

pub returns-in_err-found : goal.returns-in_err-found
unfolding targets
returns-in_err-found g c = first_of (grind (arith, ReadsTokens_made), search rules)

pub returns-then-found : goal.returns-then-found
unfolding targets
returns-then-found g c = first_of (grind (arith, ReadsTokens_made), search rules)

pub returns-else-found : goal.returns-else-found
unfolding targets
returns-else-found g c = first_of (grind (arith, ReadsTokens_made), search rules)
