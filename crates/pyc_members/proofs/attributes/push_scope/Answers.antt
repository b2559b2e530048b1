use Rattle.std.proofs.lemmas.Grind.{common_steps}
use Rattle.std.proofs.Common.{arith, rules}
use Rattle.pyc_members.proofs.attributes.push_scope.Goals as goal

pub loop-part-init : goal.loop-part-init
loop-part-init c = first_of (grind (arith, common_steps), search rules)

pub returns : goal.returns
returns c = first_of (grind (arith, common_steps), search rules)

pub returns-in_err-parts : goal.returns-in_err-parts
returns-in_err-parts c = first_of (grind (arith, common_steps), search rules)

pub returns-in_err-push_part : goal.returns-in_err-push_part
returns-in_err-push_part c = first_of (grind (arith, common_steps), search rules)
