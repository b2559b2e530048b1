use Rattle.pyc_calls.specs.Called.{without_call}
use Rattle.pyc_obligations.proofs.Steps.{performing}
use Rattle.std.proofs.Common.{arith, rules}
use Rattle.pyc_calls.proofs.caller.Caller.without_call.Goals as goal

pub returns-in_err-is_unknown : goal.returns-in_err-is_unknown
unfolding without_call
returns-in_err-is_unknown g c = first_of (grind (arith, performing), search rules)

pub returns : goal.returns
unfolding without_call
returns g c = first_of (grind (arith, performing), search rules)
