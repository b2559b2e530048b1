use Rattle.std.proofs.Common.{arith, rules}
use Rattle.std.proofs.lemmas.Grind.{common_steps}
use Rattle.pyc_narrowing.proofs.comparisons.sense_of.Goals as goal

pub returns-in-Is : goal.returns-in-Is
returns-in-Is c = first_of (grind (arith, common_steps), search rules)

pub returns-in-IsNot : goal.returns-in-IsNot
returns-in-IsNot c = first_of (grind (arith, common_steps), search rules)

pub returns-in_default : goal.returns-in_default
returns-in_default c = first_of (grind (arith, common_steps), search rules)
