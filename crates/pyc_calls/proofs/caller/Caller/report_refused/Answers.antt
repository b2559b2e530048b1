use Rattle.pyc_calls.specs.Called.{report_refused}
use Rattle.pyc_obligations.proofs.Steps.{performing}
use Rattle.std.proofs.Common.{arith, rules}
use Rattle.pyc_calls.proofs.caller.Caller.report_refused.Goals as goal

pub returns-in_err-read_all : goal.returns-in_err-read_all
unfolding report_refused
returns-in_err-read_all g c = first_of (grind (arith, performing), search rules)

pub returns : goal.returns
unfolding report_refused
returns g c = first_of (grind (arith, performing), search rules)
