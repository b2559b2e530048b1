use Rattle.pyc_calls.specs.Called.{infer_class_call}
use Rattle.pyc_obligations.proofs.Steps.{performing}
use Rattle.std.proofs.Common.{arith, rules}
use Rattle.pyc_calls.proofs.caller.Caller.infer_class_call.Goals as goal

pub returns-in_err-found : goal.returns-in_err-found
unfolding infer_class_call
returns-in_err-found g c = first_of (grind (arith, performing), search rules)

pub returns : goal.returns
unfolding infer_class_call
returns g c = first_of (grind (arith, performing), search rules)
