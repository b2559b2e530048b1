use Rattle.std.proofs.Common.{arith, rules}
use Rattle.std.proofs.lemmas.Grind.{common_steps}
use Rattle.pyc_operators.proofs.made.joined_lists.Goals as goal

pub returns-in_err-item : goal.returns-in_err-item
returns-in_err-item c = first_of (grind (arith, common_steps), search rules)

pub returns-in_err-item_of : goal.returns-in_err-item_of
returns-in_err-item_of c = first_of (grind (arith, common_steps), search rules)

pub returns-in_err-item_of-2 : goal.returns-in_err-item_of-2
returns-in_err-item_of-2 c = first_of (grind (arith, common_steps), search rules)

pub returns-in_err-new : goal.returns-in_err-new
returns-in_err-new c = first_of (grind (arith, common_steps), search rules)
