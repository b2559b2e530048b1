use Rattle.std.proofs.lemmas.Grind.{common_steps}
use Rattle.std.proofs.Common.{arith, rules}
use Rattle.pyc_bindings.proofs.decorators.has_other.Goals as goal

pub loop-found-init : goal.loop-found-init
loop-found-init c = first_of (grind (arith, common_steps), search rules)

pub returns : goal.returns
returns c = first_of (grind (arith, common_steps), search rules)

pub returns-then-is_other : goal.returns-then-is_other
returns-then-is_other c = first_of (grind (arith, common_steps), search rules)
