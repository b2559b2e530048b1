use Rattle.std.proofs.Common.{arith, rules}
use Rattle.std.proofs.lemmas.Grind.{common_steps}
use Rattle.pyc_attributes.proofs.binding.bind_to_class.Goals as goal

pub returns-in-ClassMethod : goal.returns-in-ClassMethod
returns-in-ClassMethod c = first_of (grind (arith, common_steps), search rules)

pub returns-in_default : goal.returns-in_default
returns-in_default c = first_of (grind (arith, common_steps), search rules)
