use Rattle.std.proofs.lemmas.Grind.{common_steps}
use Rattle.std.proofs.Common.{arith, rules}
use Rattle.pyc_lower_block.proofs.forms.condition.Goals as goal

pub returns-in_err-insert : goal.returns-in_err-insert
returns-in_err-insert g c = first_of (grind (arith, common_steps), search rules)

pub returns-in_err-new : goal.returns-in_err-new
returns-in_err-new g c = first_of (grind (arith, common_steps), search rules)

pub returns-in_err-test : goal.returns-in_err-test
returns-in_err-test g c = first_of (grind (arith, common_steps), search rules)
