use Rattle.pyc_narrowing.specs.Splitting.{truth_rule}
use Rattle.pyc_obligations.proofs.Steps.{performing}
use Rattle.std.proofs.Common.{arith, rules}
use Rattle.pyc_narrowing.proofs.truth.place_truth.Goals as goal

pub returns-in_err-found : goal.returns-in_err-found
unfolding truth_rule
returns-in_err-found g c = first_of (grind (arith, performing), search rules)

pub returns : goal.returns
unfolding truth_rule
returns g c = first_of (grind (arith, performing), search rules)
