use Rattle.pyc_obligations.proofs.Steps.{performing}
use Rattle.std.proofs.Common.{arith, rules}
use Rattle.std.proofs.lemmas.Grind.{common_steps}
use Rattle.pyc_overrides.proofs.parameters.plain_param_type.Goals as goal

pub loop-got-init : goal.loop-got-init
loop-got-init c = first_of (grind (arith, performing), search rules)

pub returns : goal.returns
returns c = first_of (grind (arith, common_steps, performing), search rules)
