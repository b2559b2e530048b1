use Rattle.pyc_members.specs.DeclaredClasses.{declared_classes}
use Rattle.std.proofs.lemmas.Grind.{common_steps}
use Rattle.std.proofs.Common.{arith, rules}
use Rattle.pyc_members.proofs.declared_class.declared_classes.Goals as goal

pub loop-part-init : goal.loop-part-init
unfolding declared_classes
loop-part-init c = first_of (grind (arith, common_steps), search rules)

pub returns : goal.returns
unfolding declared_classes
returns c = first_of (grind (arith, common_steps), search rules)

pub returns-in_err-parts : goal.returns-in_err-parts
unfolding declared_classes
returns-in_err-parts c = first_of (grind (arith, common_steps), search rules)

pub returns-in_err-places : goal.returns-in_err-places
unfolding declared_classes
returns-in_err-places c = first_of (grind (arith, common_steps), search rules)

pub returns-in_err-push_part : goal.returns-in_err-push_part
unfolding declared_classes
returns-in_err-push_part c = first_of (grind (arith, common_steps), search rules)
