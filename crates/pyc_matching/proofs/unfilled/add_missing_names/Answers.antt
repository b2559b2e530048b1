use Rattle.std.proofs.Common.{arith, rules}
use Rattle.std.proofs.lemmas.Grind.{common_steps}
use Rattle.pyc_matching.proofs.unfilled.add_missing_names.Goals as goal

pub loop-index-init : goal.loop-index-init
loop-index-init c = first_of (grind (arith, common_steps), search rules)

pub returns : goal.returns
returns c = first_of (grind (arith, common_steps), search rules)

pub returns-in_err-add_name : goal.returns-in_err-add_name
returns-in_err-add_name c = first_of (grind (arith, common_steps), search rules)
