use Rattle.std.proofs.lemmas.Grind.{common_steps}
use Rattle.std.proofs.Common.{arith, rules}
use Rattle.pyc_bindings.proofs.bindings.push_modules.Goals as goal

pub loop-module_found-init : goal.loop-module_found-init
loop-module_found-init c = first_of (grind (arith, common_steps), search rules)

pub returns : goal.returns
returns c = first_of (grind (arith, common_steps), search rules)

pub returns-in_err-push_module : goal.returns-in_err-push_module
returns-in_err-push_module c = first_of (grind (arith, common_steps), search rules)
