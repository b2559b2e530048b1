use Rattle.pyc_operators.specs.Pairs.{infer_by_both_sorts}
use Rattle.pyc_operators.proofs.Steps.{performing}
use Rattle.std.proofs.Common.{arith, rules}
use Rattle.pyc_operators.proofs.pairs.Pair.infer_by_both_sorts.Goals as goal

pub returns : goal.returns
unfolding infer_by_both_sorts
returns g c = first_of (grind (arith, performing), search rules)

pub returns-in_err-method : goal.returns-in_err-method
unfolding infer_by_both_sorts
returns-in_err-method g c = first_of (grind (arith, performing), search rules)
