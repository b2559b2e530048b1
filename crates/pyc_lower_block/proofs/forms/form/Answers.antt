use Rattle.std.proofs.lemmas.Grind.{common_steps}
use Rattle.std.proofs.Common.{arith, rules}
use Rattle.pyc_lower_block.proofs.forms.form.Goals as goal

pub returns-in-Condition : goal.returns-in-Condition
returns-in-Condition g c = first_of (grind (arith, common_steps), search rules)

pub returns-in-With : goal.returns-in-With
returns-in-With g c = first_of (grind (arith, common_steps), search rules)

pub returns-in-WithEnclosed : goal.returns-in-WithEnclosed
returns-in-WithEnclosed g c = first_of (grind (arith, common_steps), search rules)

pub returns-in_default : goal.returns-in_default
returns-in_default g c = first_of (grind (arith, common_steps), search rules)

pub returns-in_err-head-in-For : goal.returns-in_err-head-in-For
returns-in_err-head-in-For g c = first_of (grind (arith, common_steps), search rules)

pub returns-in_err-new-in-For : goal.returns-in_err-new-in-For
returns-in_err-new-in-For g c = first_of (grind (arith, common_steps), search rules)
