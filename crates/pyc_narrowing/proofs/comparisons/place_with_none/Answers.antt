use Rattle.pyc_narrowing.specs.Splitting.{none_rule}
use Rattle.pyc_obligations.proofs.Steps.{performing}
use Rattle.std.proofs.Common.{arith, rules}
use Rattle.pyc_narrowing.proofs.comparisons.place_with_none.Goals as goal

pub returns-in_err-found : goal.returns-in_err-found
unfolding none_rule
returns-in_err-found g c = first_of (grind (arith, performing), search rules)

pub returns : goal.returns
unfolding none_rule
returns g c = first_of (grind (arith, performing), search rules)
