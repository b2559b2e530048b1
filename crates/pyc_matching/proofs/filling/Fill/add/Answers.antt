use Rattle.std.proofs.Common.{arith, rules}
use Rattle.std.proofs.lemmas.Grind.{common_steps}
use Rattle.pyc_matching.proofs.filling.Fill.add.Goals as goal

pub returns-in_err-push-in-ByName : goal.returns-in_err-push-in-ByName
returns-in_err-push-in-ByName c = first_of (grind (arith, common_steps), search rules)

pub returns-in_err-push-in-ByPlace : goal.returns-in_err-push-in-ByPlace
returns-in_err-push-in-ByPlace c = first_of (grind (arith, common_steps), search rules)

pub returns-in_ok-push-in-ByName : goal.returns-in_ok-push-in-ByName
returns-in_ok-push-in-ByName c = first_of (grind (arith, common_steps), search rules)

pub returns-in_ok-push-in-ByPlace : goal.returns-in_ok-push-in-ByPlace
returns-in_ok-push-in-ByPlace c = first_of (grind (arith, common_steps), search rules)
