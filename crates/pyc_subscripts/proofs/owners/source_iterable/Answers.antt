use Rattle.pyc_subscripts.specs.Owners.{source_iterable}
use Rattle.pyc_subscripts.proofs.Steps.{performing}
use Rattle.std.proofs.Common.{arith, rules}
use Rattle.pyc_subscripts.proofs.owners.source_iterable.Goals as goal

pub returns-in_err-clone : goal.returns-in_err-clone
unfolding source_iterable
returns-in_err-clone g c = first_of (grind (arith, performing), search rules)

pub returns-in_err-answer : goal.returns-in_err-answer
unfolding source_iterable
returns-in_err-answer g c = first_of (grind (arith, performing), search rules)

pub returns : goal.returns
unfolding source_iterable
returns g c = first_of (grind (arith, performing), search rules)
