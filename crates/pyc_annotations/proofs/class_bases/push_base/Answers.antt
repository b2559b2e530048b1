use Rattle.std.proofs.Common.{arith, rules}
use Rattle.std.proofs.lemmas.Grind.{common_steps}
use Rattle.pyc_annotations.proofs.class_bases.push_base.Goals as goal

pub returns-in_default : goal.returns-in_default
returns-in_default c = first_of (grind (arith, common_steps), search rules)

pub returns-in_err-push : goal.returns-in_err-push
returns-in_err-push c = first_of (grind (arith, common_steps), search rules)

pub returns-in_ok-push : goal.returns-in_ok-push
returns-in_ok-push c = first_of (grind (arith, common_steps), search rules)
