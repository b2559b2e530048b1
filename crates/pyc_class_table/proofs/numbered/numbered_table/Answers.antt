use Rattle.std.proofs.Common.{arith, rules}
use Rattle.std.proofs.lemmas.Grind.{common_steps}
use Rattle.pyc_class_table.proofs.numbered.numbered_table.Goals as goal

pub loop-entry-init : goal.loop-entry-init
loop-entry-init c = first_of (grind (arith, common_steps), search rules)

pub returns : goal.returns
returns c = first_of (grind (arith, common_steps), search rules)

pub returns-in_err-numbered_bases : goal.returns-in_err-numbered_bases
returns-in_err-numbered_bases c = first_of (grind (arith, common_steps), search rules)

pub returns-in_err-push : goal.returns-in_err-push
returns-in_err-push c = first_of (grind (arith, common_steps), search rules)

pub returns-in_err-table : goal.returns-in_err-table
returns-in_err-table c = first_of (grind (arith, common_steps), search rules)
