use Rattle.std.proofs.Common.{arith, rules}
use Rattle.pyc_build.proofs.Steps.{ReadsTokens_made}
use Rattle.pyc_list_rules.proofs.lists.single_or_tuple.Goals as goal

pub returns-else-is_at : goal.returns-else-is_at
returns-else-is_at c = first_of (grind (arith, ReadsTokens_made), search rules)

pub returns-in-Many : goal.returns-in-Many
returns-in-Many c = first_of (grind (arith, ReadsTokens_made), search rules)

pub returns-then-is_at : goal.returns-then-is_at
returns-then-is_at c = first_of (grind (arith, ReadsTokens_made), search rules)
