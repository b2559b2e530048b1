use Rattle.std.proofs.lemmas.Grind.{common_steps}
use Rattle.std.proofs.Common.{arith, rules}
use Rattle.pyc_bindings.proofs.decorators.has_setter.Goals as goal

pub loop-found-init : goal.loop-found-init
loop-found-init c = first_of (grind (arith, common_steps), search rules)

pub returns : goal.returns
returns c = first_of (grind (arith, common_steps), search rules)

pub returns-then-is_setter : goal.returns-then-is_setter
returns-then-is_setter c = first_of (grind (arith, common_steps), search rules)
