use Rattle.pyc_tree.specs.Items.{star_parameter}
use Rattle.pyc_build.proofs.Steps.{ReadsTokens_made}
use Rattle.std.proofs.Common.{arith, rules}
use Rattle.pyc_list_rules.proofs.rules.ItemRules.star_parameter.Goals as goal

pub returns-in_err-star : goal.returns-in_err-star
unfolding star_parameter
returns-in_err-star g c = first_of (grind (arith, ReadsTokens_made), search rules)

pub returns-in_err-name : goal.returns-in_err-name
unfolding star_parameter
returns-in_err-name g c = first_of (grind (arith, ReadsTokens_made), search rules)

pub returns-in_err-annotation : goal.returns-in_err-annotation
unfolding star_parameter
returns-in_err-annotation g c = first_of (grind (arith, ReadsTokens_made), search rules)

pub returns-in_ok-annotation : goal.returns-in_ok-annotation
unfolding star_parameter
returns-in_ok-annotation g c = first_of (grind (arith, ReadsTokens_made), search rules)

pub returns-else-is_name : goal.returns-else-is_name
unfolding star_parameter
returns-else-is_name g c = first_of (grind (arith, ReadsTokens_made), search rules)
