use Rattle.pyc_obligations.proofs.Steps.{performing}
use Rattle.std.proofs.Common.{arith, rules}
use Rattle.std.proofs.lemmas.Grind.{common_steps}
use Rattle.pyc_calls.proofs.constructors.first_initializer.Goals as goal

pub loop-class-init : goal.loop-class-init
loop-class-init c = first_of (grind (arith, performing), search rules)

pub returns : goal.returns
returns c = first_of (grind (arith, common_steps, performing), search rules)

pub returns-then-has_own_initializer : goal.returns-then-has_own_initializer
returns-then-has_own_initializer c = first_of (grind (arith, common_steps, performing), search rules)

pub returns-then-is_declared_by : goal.returns-then-is_declared_by
returns-then-is_declared_by c = first_of (grind (arith, common_steps, performing), search rules)
