use Rattle.std.proofs.Common.{arith, rules}
use Rattle.std.proofs.lemmas.Grind.{common_steps}
use Rattle.pyc_attributes.proofs.modules.answered_found.Goals as goal

pub returns-in-NoName : goal.returns-in-NoName
returns-in-NoName c = first_of (grind (arith, common_steps), search rules)

pub returns-in_default : goal.returns-in_default
returns-in_default c = first_of (grind (arith, common_steps), search rules)
