use Rattle.pyc_bindings.specs.Bindings.{bindings_of}
use Rattle.std.proofs.lemmas.Grind.{common_steps}
use Rattle.std.proofs.Common.{arith, rules}
use Rattle.pyc_bindings.proofs.bindings.scope_bindings.Goals as goal

pub loop-part-init : goal.loop-part-init
unfolding bindings_of
loop-part-init c = first_of (grind (arith, common_steps), search rules)

pub returns : goal.returns
unfolding bindings_of
returns c = first_of (grind (arith, common_steps), search rules)

pub returns-in_err-parts : goal.returns-in_err-parts
unfolding bindings_of
returns-in_err-parts c = first_of (grind (arith, common_steps), search rules)

pub returns-in_err-push_part : goal.returns-in_err-push_part
unfolding bindings_of
returns-in_err-push_part c = first_of (grind (arith, common_steps), search rules)
