use Rattle.std.proofs.Common.{arith, rules}
use Rattle.std.proofs.lemmas.Grind.{common_steps}
use Rattle.pyc_assignments.proofs.storing.drop_and_narrow.Goals as goal

pub returns : goal.returns
returns g c = first_of (grind (arith, common_steps), search rules)

pub returns-in_err-dropped : goal.returns-in_err-dropped
returns-in_err-dropped g c = first_of (grind (arith, common_steps), search rules)
