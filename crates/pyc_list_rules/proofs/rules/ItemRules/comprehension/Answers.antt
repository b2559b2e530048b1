use Rattle.pyc_build.proofs.Steps.{ReadsTokens_made}
use Rattle.std.proofs.Common.{arith, rules}
use Rattle.pyc_list_rules.proofs.rules.ItemRules.comprehension.Goals as goal

pub returns-in-For : goal.returns-in-For
returns-in-For g c = first_of (grind (arith, ReadsTokens_made), search rules)

pub returns-in-Async : goal.returns-in-Async
returns-in-Async g c = first_of (grind (arith, ReadsTokens_made), search rules)

pub returns-in-If : goal.returns-in-If
returns-in-If g c = first_of (grind (arith, ReadsTokens_made), search rules)

pub returns-in_default-word : goal.returns-in_default-word
returns-in_default-word g c = first_of (grind (arith, ReadsTokens_made), search rules)

pub returns-in_default : goal.returns-in_default
returns-in_default g c = first_of (grind (arith, ReadsTokens_made), search rules)
