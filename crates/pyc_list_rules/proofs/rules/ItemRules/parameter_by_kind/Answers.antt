use Rattle.pyc_build.proofs.Steps.{ReadsTokens_made}
use Rattle.std.proofs.Common.{arith, rules}
use Rattle.pyc_list_rules.proofs.rules.ItemRules.parameter_by_kind.Goals as goal

pub returns-then-is_star : goal.returns-then-is_star
returns-then-is_star g c = first_of (grind (arith, ReadsTokens_made), search rules)

pub returns-then-is_double_star : goal.returns-then-is_double_star
returns-then-is_double_star g c = first_of (grind (arith, ReadsTokens_made), search rules)

pub returns-else-is_double_star : goal.returns-else-is_double_star
returns-else-is_double_star g c = first_of (grind (arith, ReadsTokens_made), search rules)
