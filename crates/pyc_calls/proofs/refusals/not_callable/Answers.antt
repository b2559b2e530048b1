use Rattle.pyc_calls.specs.Called.{not_callable}
use Rattle.pyc_obligations.proofs.Steps.{performing}
use Rattle.std.proofs.Common.{arith, rules}
use Rattle.pyc_calls.proofs.refusals.not_callable.Goals as goal

pub returns : goal.returns
unfolding not_callable
returns g c = first_of (grind (arith, performing), search rules)

pub returns-in_err-got : goal.returns-in_err-got
unfolding not_callable
returns-in_err-got g c = first_of (grind (arith, performing), search rules)

pub returns-in_err-text : goal.returns-in_err-text
unfolding not_callable
returns-in_err-text g c = first_of (grind (arith, performing), search rules)
