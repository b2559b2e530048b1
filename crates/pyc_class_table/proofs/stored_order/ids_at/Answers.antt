use Rattle.std.proofs.Common.{arith, rules}
use Rattle.std.proofs.lemmas.Grind.{common_steps}
use Rattle.pyc_class_table.proofs.stored_order.ids_at.Goals as goal

pub loop-number-init : goal.loop-number-init
loop-number-init c = first_of (grind (arith, common_steps), search rules)

pub returns : goal.returns
returns c = first_of (grind (arith, common_steps), search rules)

pub returns-in_err-classes : goal.returns-in_err-classes
returns-in_err-classes c = first_of (grind (arith, common_steps), search rules)

pub returns-in_err-id_at : goal.returns-in_err-id_at
returns-in_err-id_at c = first_of (grind (arith, common_steps), search rules)

pub returns-in_err-push : goal.returns-in_err-push
returns-in_err-push c = first_of (grind (arith, common_steps), search rules)
