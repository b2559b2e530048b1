use Rattle.std.proofs.Common.{arith, rules}
use Rattle.std.proofs.lemmas.Grind.{common_steps}
use Rattle.pyc_subscripts.proofs.owners.owner_by_getitem.Goals as goal

pub returns-in-None : goal.returns-in-None
returns-in-None c = first_of (grind (arith, common_steps), search rules)

pub returns-in_err-given-in-Some : goal.returns-in_err-given-in-Some
returns-in_err-given-in-Some c = first_of (grind (arith, common_steps), search rules)

pub returns-in_err-method-in-Some : goal.returns-in_err-method-in-Some
returns-in_err-method-in-Some c = first_of (grind (arith, common_steps), search rules)

pub returns-in_ok-given-in-Some : goal.returns-in_ok-given-in-Some
returns-in_ok-given-in-Some c = first_of (grind (arith, common_steps), search rules)
