use Rattle.pyc_subscripts.specs.Owners.{source_owner}
use Rattle.pyc_subscripts.proofs.Steps.{performing}
use Rattle.std.proofs.Common.{arith, rules}
use Rattle.pyc_subscripts.proofs.owners.source_owner.Goals as goal

pub returns-in_err-clone : goal.returns-in_err-clone
unfolding source_owner
returns-in_err-clone g c = first_of (grind (arith, performing), search rules)

pub returns-in_err-answer : goal.returns-in_err-answer
unfolding source_owner
returns-in_err-answer g c = first_of (grind (arith, performing), search rules)

pub returns : goal.returns
unfolding source_owner
returns g c = first_of (grind (arith, performing), search rules)
