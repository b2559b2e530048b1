use Rattle.pyc_obligations.proofs.Steps.{performing}
use Rattle.std.proofs.Common.{arith, rules}
use Rattle.std.proofs.lemmas.Grind.{common_steps}
use Rattle.pyc_assignments.proofs.unpacking.has_starred.Goals as goal

pub loop-element-init : goal.loop-element-init
loop-element-init c = first_of (grind (arith, performing), search rules)

pub returns : goal.returns
returns c = first_of (grind (arith, common_steps, performing), search rules)
