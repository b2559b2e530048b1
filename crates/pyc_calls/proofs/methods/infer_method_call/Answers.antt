use Rattle.pyc_obligations.proofs.Steps.{performing}
use Rattle.std.proofs.Common.{arith, rules}
use Rattle.pyc_calls.proofs.methods.infer_method_call.Goals as goal

pub returns-in_err-callee : goal.returns-in_err-callee
returns-in_err-callee g c = first_of (grind (arith, performing), search rules)

pub returns-in_err-arguments : goal.returns-in_err-arguments
returns-in_err-arguments g c = first_of (grind (arith, performing), search rules)

pub returns : goal.returns
returns g c = first_of (grind (arith, performing), search rules)
