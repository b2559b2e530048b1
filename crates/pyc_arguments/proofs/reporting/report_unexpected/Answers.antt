use Rattle.pyc_arguments.specs.Reporting.{unexpected_message}
use Rattle.pyc_obligations.proofs.Steps.{performing}
use Rattle.std.proofs.Common.{arith, rules}
use Rattle.pyc_arguments.proofs.reporting.report_unexpected.Goals as goal

pub returns : goal.returns
unfolding unexpected_message
returns g c = first_of (grind (arith, performing), search rules)

pub returns-in_err-shown : goal.returns-in_err-shown
unfolding unexpected_message
returns-in_err-shown g c = first_of (grind (arith, performing), search rules)

pub returns-in_err-text : goal.returns-in_err-text
unfolding unexpected_message
returns-in_err-text g c = first_of (grind (arith, performing), search rules)
