use Rattle.std.proofs.Common.{arith, rules}
use Rattle.std.proofs.lemmas.Grind.{common_steps}
use Rattle.pyc_attributes.proofs.binding.later_params.Goals as goal

pub returns-in-empty : goal.returns-in-empty
returns-in-empty c = first_of (grind (arith, common_steps), search rules)
