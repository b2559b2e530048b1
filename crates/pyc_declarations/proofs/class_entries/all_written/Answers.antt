use Rattle.std.proofs.lemmas.Grind.{common_steps}
use Rattle.std.proofs.Common.{arith, rules}
use Rattle.pyc_declarations.proofs.class_entries.all_written.Goals as goal

pub loop-base-init : goal.loop-base-init
loop-base-init c = first_of (grind (arith, common_steps), search rules)

pub loop-base-init-derived : goal.loop-base-init-derived
loop-base-init-derived c = first_of (grind (arith, common_steps), search rules)

pub returns-in_err-bases : goal.returns-in_err-bases
returns-in_err-bases c = first_of (grind (arith, common_steps), search rules)

pub returns-in_err-push : goal.returns-in_err-push
returns-in_err-push c = first_of (grind (arith, common_steps), search rules)
