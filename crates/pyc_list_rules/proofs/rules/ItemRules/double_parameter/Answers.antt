use Rattle.pyc_tree.specs.Items.{double_parameter}
use Rattle.pyc_build.proofs.Steps.{ReadsTokens_made}
use Rattle.std.proofs.Common.{arith, rules}
use Rattle.pyc_list_rules.proofs.rules.ItemRules.double_parameter.Goals as goal

pub returns-in_err-stars : goal.returns-in_err-stars
unfolding double_parameter
returns-in_err-stars g c = first_of (grind (arith, ReadsTokens_made), search rules)

pub returns-in_err-name : goal.returns-in_err-name
unfolding double_parameter
returns-in_err-name g c = first_of (grind (arith, ReadsTokens_made), search rules)

pub returns-in_err-annotation : goal.returns-in_err-annotation
unfolding double_parameter
returns-in_err-annotation g c = first_of (grind (arith, ReadsTokens_made), search rules)

pub returns : goal.returns
unfolding double_parameter
returns g c = first_of (grind (arith, ReadsTokens_made), search rules)
