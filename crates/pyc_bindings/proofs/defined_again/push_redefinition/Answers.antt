use Rattle.std.proofs.lemmas.Grind.{common_steps}
use Rattle.std.proofs.Common.{arith, rules}
use Rattle.pyc_bindings.proofs.defined_again.push_redefinition.Goals as goal

pub returns-else-is_redefinition : goal.returns-else-is_redefinition
returns-else-is_redefinition c = first_of (grind (arith, common_steps), search rules)

pub returns-in_default : goal.returns-in_default
returns-in_default c = first_of (grind (arith, common_steps), search rules)

pub returns-in_err-clone : goal.returns-in_err-clone
returns-in_err-clone c = first_of (grind (arith, common_steps), search rules)

pub returns-in_err-push : goal.returns-in_err-push
returns-in_err-push c = first_of (grind (arith, common_steps), search rules)

pub returns-in_ok-push : goal.returns-in_ok-push
returns-in_ok-push c = first_of (grind (arith, common_steps), search rules)
