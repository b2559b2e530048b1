use Rattle.pyc_attributes.proofs.Steps.{performing}
use Rattle.std.proofs.Common.{arith, rules}
use Rattle.std.proofs.lemmas.Grind.{common_steps}
use Rattle.pyc_attributes.proofs.binding.copy_params.Goals as goal

pub loop-param-init : goal.loop-param-init
loop-param-init c = first_of (grind (arith, performing), search rules)

pub returns : goal.returns
returns c = first_of (grind (arith, common_steps, performing), search rules)

pub returns-in_err-copy_param : goal.returns-in_err-copy_param
returns-in_err-copy_param c = first_of (grind (arith, performing), search rules)

pub returns-in_err-copy : goal.returns-in_err-copy
returns-in_err-copy c = first_of (grind (arith, performing), search rules)

pub returns-in_err-push : goal.returns-in_err-push
returns-in_err-push c = first_of (grind (arith, performing), search rules)
