use Rattle.std.proofs.lemmas.Grind.{common_steps}
use Rattle.std.proofs.Common.{arith, rules}
use Rattle.pyc_names.proofs.table.Table.build.Goals as goal

pub loop-file-init : goal.loop-file-init
loop-file-init c = first_of (grind (arith, common_steps), search rules)

pub returns : goal.returns
returns c = first_of (grind (arith, common_steps), search rules)

pub returns-in_err-clone : goal.returns-in_err-clone
returns-in_err-clone c = first_of (grind (arith, common_steps), search rules)

pub returns-in_err-places_of : goal.returns-in_err-places_of
returns-in_err-places_of c = first_of (grind (arith, common_steps), search rules)

pub returns-in_err-push : goal.returns-in_err-push
returns-in_err-push c = first_of (grind (arith, common_steps), search rules)

pub returns-in_err-shared : goal.returns-in_err-shared
returns-in_err-shared c = first_of (grind (arith, common_steps), search rules)
