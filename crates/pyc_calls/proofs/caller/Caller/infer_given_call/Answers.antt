use Rattle.pyc_calls.specs.Called.{infer_given_call}
use Rattle.pyc_obligations.proofs.Steps.{performing}
use Rattle.std.proofs.Common.{arith, rules}
use Rattle.pyc_calls.proofs.caller.Caller.infer_given_call.Goals as goal

pub returns-in_err-read_all : goal.returns-in_err-read_all
unfolding infer_given_call
returns-in_err-read_all g c = first_of (grind (arith, performing), search rules)

pub returns : goal.returns
unfolding infer_given_call
returns g c = first_of (grind (arith, performing), search rules)
