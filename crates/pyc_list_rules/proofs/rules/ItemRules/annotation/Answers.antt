use Rattle.pyc_build.proofs.Steps.{ReadsTokens_made}
use Rattle.std.proofs.Common.{arith, rules}
use Rattle.pyc_list_rules.proofs.rules.ItemRules.annotation.Goals as goal

pub returns-then-is_annotated : goal.returns-then-is_annotated
returns-then-is_annotated g c = first_of (grind (arith, ReadsTokens_made), search rules)

pub returns-else-is_annotated : goal.returns-else-is_annotated
returns-else-is_annotated g c = first_of (grind (arith, ReadsTokens_made), search rules)
