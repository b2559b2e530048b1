use Rattle.pyc_tree.specs.Items.{if_clause}
use Rattle.pyc_build.proofs.Steps.{ReadsTokens_made}
use Rattle.std.proofs.Common.{arith, rules}
use Rattle.pyc_list_rules.proofs.rules.ItemRules.if_clause.Goals as goal

pub returns-in_err-word : goal.returns-in_err-word
unfolding if_clause
returns-in_err-word g c = first_of (grind (arith, ReadsTokens_made), search rules)

pub returns-in_err-condition : goal.returns-in_err-condition
unfolding if_clause
returns-in_err-condition g c = first_of (grind (arith, ReadsTokens_made), search rules)

pub returns : goal.returns
unfolding if_clause
returns g c = first_of (grind (arith, ReadsTokens_made), search rules)
