use Rattle.std.proofs.Common.{arith, rules}
use Rattle.std.proofs.lemmas.Grind.{common_steps}
use Rattle.pyc_declarations.proofs.kinds.copy_parts.Goals as goal

pub loop-part-init : goal.loop-part-init
loop-part-init c = first_of (grind (arith, common_steps), search rules)

pub returns : goal.returns
returns c = first_of (grind (arith, common_steps), search rules)

pub returns-in_err-clone : goal.returns-in_err-clone
returns-in_err-clone c = first_of (grind (arith, common_steps), search rules)

pub returns-in_err-copy : goal.returns-in_err-copy
returns-in_err-copy c = first_of (grind (arith, common_steps), search rules)

pub returns-in_err-push : goal.returns-in_err-push
returns-in_err-push c = first_of (grind (arith, common_steps), search rules)
