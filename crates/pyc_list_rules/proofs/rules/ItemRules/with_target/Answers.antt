use Rattle.pyc_tree.specs.Items.{with_target}
use Rattle.pyc_build.proofs.Steps.{ReadsTokens_made}
use Rattle.std.proofs.Common.{arith, rules}
use Rattle.pyc_list_rules.proofs.rules.ItemRules.with_target.Goals as goal

pub returns-in_err-word : goal.returns-in_err-word
unfolding with_target
returns-in_err-word g c = first_of (grind (arith, ReadsTokens_made), search rules)

pub returns-in_err-target : goal.returns-in_err-target
unfolding with_target
returns-in_err-target g c = first_of (grind (arith, ReadsTokens_made), search rules)

pub returns-then-not-target : goal.returns-then-not-target
unfolding with_target
returns-then-not-target g c = first_of (grind (arith, ReadsTokens_made), search rules)

pub returns-in_err-target-2 : goal.returns-in_err-target-2
unfolding with_target
returns-in_err-target-2 g c = first_of (grind (arith, ReadsTokens_made), search rules)

pub returns : goal.returns
unfolding with_target
returns g c = first_of (grind (arith, ReadsTokens_made), search rules)
