use Rattle.pyc_arguments.specs.Matched.{filling_reported}
use Rattle.pyc_obligations.proofs.Steps.{performing}
use Rattle.std.proofs.Common.{arith, rules}
use Rattle.pyc_arguments.proofs.argument_matching.ListedCall.report_filling.Goals as goal

pub returns-in_err-report_if_too_many : goal.returns-in_err-report_if_too_many
unfolding filling_reported
returns-in_err-report_if_too_many g c = first_of (grind (arith, performing), search rules)

pub returns : goal.returns
unfolding filling_reported
returns g c = first_of (grind (arith, performing), search rules)
