use Rattle.std.proofs.Common.{arith, rules}
use Rattle.std.proofs.lemmas.Grind.{common_steps}
use Rattle.pyc_members.proofs.attributes.+targets.Goals as goal

pub push_elements-loop-element-init : goal.push_elements-loop-element-init
push_elements-loop-element-init t c = first_of (grind (arith, common_steps), search rules)

pub push_elements-returns : goal.push_elements-returns
push_elements-returns t c = first_of (grind (arith, common_steps), search rules)

pub push_elements-returns-in_err-push_target : goal.push_elements-returns-in_err-push_target
push_elements-returns-in_err-push_target t c = first_of (grind (arith, common_steps), search rules)
