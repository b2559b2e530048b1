use Rattle.std.proofs.Common.{arith, rules}
use Rattle.std.proofs.lemmas.Grind.{common_steps}
use Rattle.pyc_members.proofs.declared_class.push_part.Goals as goal

pub returns-in_default : goal.returns-in_default
returns-in_default c = first_of (grind (arith, common_steps), search rules)
