use Rattle.std.proofs.lemmas.Grind.{common_steps}
use Rattle.std.proofs.Common.{arith, rules}
use Rattle.pyc_members.proofs.attributes.push_assigned.Goals as goal

pub loop-target-init : goal.loop-target-init
loop-target-init c = first_of (grind (arith, common_steps), search rules)

pub returns : goal.returns
returns c = first_of (grind (arith, common_steps), search rules)

pub returns-in_err-clone : goal.returns-in_err-clone
returns-in_err-clone c = first_of (grind (arith, common_steps), search rules)

pub returns-in_err-push_single : goal.returns-in_err-push_single
returns-in_err-push_single c = first_of (grind (arith, common_steps), search rules)
