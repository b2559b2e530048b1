use Rattle.pyc_names.specs.ModuleName.{module_of}
use Rattle.std.proofs.lemmas.Grind.{common_steps}
use Rattle.std.proofs.Common.{arith, rules}
use Rattle.pyc_names.proofs.module_name.ModuleName.of_path.Goals as goal

pub loop-part-init : goal.loop-part-init
unfolding module_of
loop-part-init c = first_of (grind (arith, common_steps), search rules)

pub returns : goal.returns
unfolding module_of
returns c = first_of (grind (arith, common_steps), search rules)

pub returns-in_err-normalized : goal.returns-in_err-normalized
unfolding module_of
returns-in_err-normalized c = first_of (grind (arith, common_steps), search rules)

pub returns-in_err-parts : goal.returns-in_err-parts
unfolding module_of
returns-in_err-parts c = first_of (grind (arith, common_steps), search rules)

pub returns-in_err-push : goal.returns-in_err-push
unfolding module_of
returns-in_err-push c = first_of (grind (arith, common_steps), search rules)

pub returns-in_err-spelled : goal.returns-in_err-spelled
unfolding module_of
returns-in_err-spelled c = first_of (grind (arith, common_steps), search rules)
