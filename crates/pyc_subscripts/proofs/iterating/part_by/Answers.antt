use Rattle.std.proofs.Common.{arith, rules}
use Rattle.std.proofs.lemmas.Grind.{common_steps}
use Rattle.pyc_subscripts.proofs.iterating.part_by.Goals as goal

pub returns : goal.returns
returns g c = first_of (grind (arith, common_steps), search rules)

pub returns-in-Builtin : goal.returns-in-Builtin
returns-in-Builtin g c = first_of (grind (arith, common_steps), search rules)
