use Rattle.pyc_operators.specs.Pairs.{infer_pair}
use Rattle.pyc_operators.proofs.Steps.{performing}
use Rattle.std.proofs.Common.{arith, rules}
use Rattle.pyc_operators.proofs.pairs.Pair.infer_pair.Goals as goal

pub returns : goal.returns
unfolding infer_pair
returns g c = first_of (grind (arith, performing), search rules)

pub returns-in_err-sort : goal.returns-in_err-sort
unfolding infer_pair
returns-in_err-sort g c = first_of (grind (arith, performing), search rules)
