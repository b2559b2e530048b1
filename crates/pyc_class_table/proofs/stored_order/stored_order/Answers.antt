use Rattle.std.proofs.Common.{arith, rules}
use Rattle.std.proofs.lemmas.Grind.{common_steps}
use Rattle.pyc_class_table.proofs.stored_order.stored_order.Goals as goal

pub returns : goal.returns
returns c = first_of (grind (arith, common_steps), search rules)

pub returns-in_err-ids_at : goal.returns-in_err-ids_at
returns-in_err-ids_at c = first_of (grind (arith, common_steps), search rules)
