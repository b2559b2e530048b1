use Rattle.pyc_build.proofs.Steps.{ReadsTokens_made}
use Rattle.std.proofs.Common.{arith, rules}
use Rattle.pyc_list_rules.proofs.rules.ItemRules.item_by_context.Goals as goal

pub returns-in-Items : goal.returns-in-Items
returns-in-Items g c = first_of (grind (arith, ReadsTokens_made), search rules)

pub returns-in-Targets : goal.returns-in-Targets
returns-in-Targets g c = first_of (grind (arith, ReadsTokens_made), search rules)

pub returns-in-Subscript : goal.returns-in-Subscript
returns-in-Subscript g c = first_of (grind (arith, ReadsTokens_made), search rules)

pub returns-in-WithItems : goal.returns-in-WithItems
returns-in-WithItems g c = first_of (grind (arith, ReadsTokens_made), search rules)

pub returns-in-Braces : goal.returns-in-Braces
returns-in-Braces g c = first_of (grind (arith, ReadsTokens_made), search rules)

pub returns-in-Arguments : goal.returns-in-Arguments
returns-in-Arguments g c = first_of (grind (arith, ReadsTokens_made), search rules)

pub returns-in-Ended : goal.returns-in-Ended
returns-in-Ended g c = first_of (grind (arith, ReadsTokens_made), search rules)

pub returns-in-Parameters : goal.returns-in-Parameters
returns-in-Parameters g c = first_of (grind (arith, ReadsTokens_made), search rules)
