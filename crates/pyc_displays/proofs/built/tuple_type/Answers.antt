use Rattle.std.proofs.Common.{arith, rules}
use Rattle.std.proofs.lemmas.Grind.{common_steps}
use Rattle.pyc_displays.proofs.built.tuple_type.Goals as goal

pub returns-in_err-tuple : goal.returns-in_err-tuple
returns-in_err-tuple c = first_of (grind (arith, common_steps), search rules)

pub returns-in_ok-tuple : goal.returns-in_ok-tuple
returns-in_ok-tuple c = first_of (grind (arith, common_steps), search rules)

pub returns-then-is_starred : goal.returns-then-is_starred
returns-then-is_starred c = first_of (grind (arith, common_steps), search rules)
