use Rattle.pyc_tree.specs.Items.{async_clause}
use Rattle.pyc_build.proofs.Steps.{ReadsTokens_made}
use Rattle.std.proofs.Common.{arith, rules}
use Rattle.pyc_list_rules.proofs.rules.ItemRules.async_clause.Goals as goal

pub returns-in_err-word_async : goal.returns-in_err-word_async
unfolding async_clause
returns-in_err-word_async g c = first_of (grind (arith, ReadsTokens_made), search rules)

pub returns : goal.returns
unfolding async_clause
returns g c = first_of (grind (arith, ReadsTokens_made), search rules)
