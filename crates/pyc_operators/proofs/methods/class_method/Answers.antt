use Rattle.std.proofs.Common.{arith, rules}
use Rattle.std.proofs.lemmas.Grind.{common_steps}
use Rattle.pyc_operators.proofs.methods.class_method.Goals as goal

pub returns : goal.returns
returns g c = first_of (grind (arith, common_steps), search rules)

pub returns-then-is_some : goal.returns-then-is_some
returns-then-is_some g c = first_of (grind (arith, common_steps), search rules)
