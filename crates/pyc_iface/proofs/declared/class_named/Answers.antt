use Rattle.std.proofs.Common.{arith, rules}
use Rattle.std.proofs.lemmas.Grind.{common_steps}
use Rattle.pyc_iface.proofs.declared.class_named.Goals as goal

pub loop-class-init : goal.loop-class-init
loop-class-init c = first_of (grind (arith, common_steps), search rules)

pub returns : goal.returns
returns c = first_of (grind (arith, common_steps), search rules)

pub returns-then-eq : goal.returns-then-eq
returns-then-eq c = first_of (grind (arith, common_steps), search rules)
