use Rattle.pyc_arguments.specs.Matched.{argument_taken}
use Rattle.pyc_obligations.proofs.Steps.{performing}
use Rattle.std.proofs.Common.{arith, rules}
use Rattle.pyc_arguments.proofs.argument_matching.ListedCall.take_read.Goals as goal

pub returns-in_err-report_of_read : goal.returns-in_err-report_of_read
unfolding argument_taken
returns-in_err-report_of_read g c = first_of (grind (arith, performing), search rules)

pub returns : goal.returns
unfolding argument_taken
returns g c = first_of (grind (arith, performing), search rules)
