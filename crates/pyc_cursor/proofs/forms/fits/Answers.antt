use Rattle.std.proofs.Common.{arith, rules}
use Rattle.std.proofs.lemmas.Grind.{common_steps}
use Rattle.pyc_cursor.proofs.forms.fits.Goals as goal

pub returns-else-is_item : goal.returns-else-is_item
returns-else-is_item c = first_of (grind (arith, common_steps), search rules)

pub returns-in-AfterStar : goal.returns-in-AfterStar
returns-in-AfterStar c = first_of (grind (arith, common_steps), search rules)

pub returns-in-Arguments : goal.returns-in-Arguments
returns-in-Arguments c = first_of (grind (arith, common_steps), search rules)

pub returns-in-Ended : goal.returns-in-Ended
returns-in-Ended c = first_of (grind (arith, common_steps), search rules)

pub returns-in-Entries : goal.returns-in-Entries
returns-in-Entries c = first_of (grind (arith, common_steps), search rules)

pub returns-in-Items : goal.returns-in-Items
returns-in-Items c = first_of (grind (arith, common_steps), search rules)

pub returns-in-KeywordArguments : goal.returns-in-KeywordArguments
returns-in-KeywordArguments c = first_of (grind (arith, common_steps), search rules)

pub returns-in-KeywordOnly : goal.returns-in-KeywordOnly
returns-in-KeywordOnly c = first_of (grind (arith, common_steps), search rules)

pub returns-in-LastArguments : goal.returns-in-LastArguments
returns-in-LastArguments c = first_of (grind (arith, common_steps), search rules)

pub returns-in-Parameters : goal.returns-in-Parameters
returns-in-Parameters c = first_of (grind (arith, common_steps), search rules)

pub returns-in-Subscript : goal.returns-in-Subscript
returns-in-Subscript c = first_of (grind (arith, common_steps), search rules)

pub returns-in-Targets : goal.returns-in-Targets
returns-in-Targets c = first_of (grind (arith, common_steps), search rules)

pub returns-in-WithItems : goal.returns-in-WithItems
returns-in-WithItems c = first_of (grind (arith, common_steps), search rules)

pub returns-then-is_item : goal.returns-then-is_item
returns-then-is_item c = first_of (grind (arith, common_steps), search rules)
