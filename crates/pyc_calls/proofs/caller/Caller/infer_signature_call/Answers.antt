use Rattle.pyc_calls.specs.Called.{infer_signature_call}
use Rattle.pyc_obligations.proofs.Steps.{performing}
use Rattle.std.proofs.Common.{arith, rules}
use Rattle.pyc_calls.proofs.caller.Caller.infer_signature_call.Goals as goal

pub returns-in_err-match_arguments : goal.returns-in_err-match_arguments
unfolding infer_signature_call
returns-in_err-match_arguments g c = first_of (grind (arith, performing), search rules)

pub returns : goal.returns
unfolding infer_signature_call
returns g c = first_of (grind (arith, performing), search rules)
