use Rattle.std.proofs.Common.{arith, rules}
use Rattle.std.proofs.lemmas.Grind.{common_steps}
use Rattle.pyc_places.proofs.narrowings.with_narrowing.Goals as goal

pub returns : goal.returns
returns c = first_of (grind (arith, common_steps), search rules)

pub returns-in_err-items : goal.returns-in_err-items
returns-in_err-items c = first_of (grind (arith, common_steps), search rules)

pub returns-in_err-new : goal.returns-in_err-new
returns-in_err-new c = first_of (grind (arith, common_steps), search rules)

pub returns-in_err-push : goal.returns-in_err-push
returns-in_err-push c = first_of (grind (arith, common_steps), search rules)
