use Rattle.pyc_tree.specs.Items.{for_clause}
use Rattle.pyc_build.proofs.Steps.{ReadsTokens_made}
use Rattle.std.proofs.Common.{arith, rules}
use Rattle.pyc_list_rules.proofs.rules.ItemRules.for_clause.Goals as goal

pub returns-in_err-word_for : goal.returns-in_err-word_for
unfolding for_clause
returns-in_err-word_for g c = first_of (grind (arith, ReadsTokens_made), search rules)

pub returns-in_err-targets : goal.returns-in_err-targets
unfolding for_clause
returns-in_err-targets g c = first_of (grind (arith, ReadsTokens_made), search rules)

pub returns-in_err-word_in : goal.returns-in_err-word_in
unfolding for_clause
returns-in_err-word_in g c = first_of (grind (arith, ReadsTokens_made), search rules)

pub returns-in_err-iterated : goal.returns-in_err-iterated
unfolding for_clause
returns-in_err-iterated g c = first_of (grind (arith, ReadsTokens_made), search rules)

pub returns : goal.returns
unfolding for_clause
returns g c = first_of (grind (arith, ReadsTokens_made), search rules)
