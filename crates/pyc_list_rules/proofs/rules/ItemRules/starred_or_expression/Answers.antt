use Rattle.pyc_build.proofs.Steps.{ReadsTokens_made}
use Rattle.std.proofs.Common.{arith, rules}
use Rattle.pyc_list_rules.proofs.rules.ItemRules.starred_or_expression.Goals as goal

pub returns-then-is_star : goal.returns-then-is_star
returns-then-is_star g c = first_of (grind (arith, ReadsTokens_made), search rules)

pub returns-else-is_star : goal.returns-else-is_star
returns-else-is_star g c = first_of (grind (arith, ReadsTokens_made), search rules)
