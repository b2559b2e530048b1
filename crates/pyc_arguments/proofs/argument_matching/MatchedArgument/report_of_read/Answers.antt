use Rattle.pyc_arguments.specs.Matched.{argument_read}
use Rattle.pyc_obligations.proofs.Steps.{performing}
use Rattle.std.proofs.Common.{arith, rules}
use Rattle.pyc_arguments.proofs.argument_matching.MatchedArgument.report_of_read.Goals as goal

pub returns-in_err-refuse : goal.returns-in_err-refuse
unfolding argument_read
returns-in_err-refuse g c = first_of (grind (arith, performing), search rules)

pub returns : goal.returns
unfolding argument_read
returns g c = first_of (grind (arith, performing), search rules)
