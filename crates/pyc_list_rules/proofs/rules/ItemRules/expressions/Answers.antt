use Rattle.pyc_tree.specs.Items.{expressions}
use Rattle.pyc_build.proofs.Steps.{ReadsTokens_made}
use Rattle.std.proofs.Common.{arith, rules}
use Rattle.pyc_list_rules.proofs.rules.ItemRules.expressions.Goals as goal

pub returns-in_err-first : goal.returns-in_err-first
unfolding expressions
returns-in_err-first g c = first_of (grind (arith, ReadsTokens_made), search rules)

pub returns-in_err-found : goal.returns-in_err-found
unfolding expressions
returns-in_err-found g c = first_of (grind (arith, ReadsTokens_made), search rules)

pub returns : goal.returns
unfolding expressions
returns g c = first_of (grind (arith, ReadsTokens_made), search rules)
