use Rattle.pyc_arguments.specs.Reporting.{missing_message}
use Rattle.pyc_obligations.proofs.Steps.{performing}
use Rattle.std.proofs.Common.{arith, rules}
use Rattle.pyc_arguments.proofs.reporting.report_missing.Goals as goal

pub returns : goal.returns
unfolding missing_message
returns g c = first_of (grind (arith, performing), search rules)

pub returns-in_err-name : goal.returns-in_err-name
unfolding missing_message
returns-in_err-name g c = first_of (grind (arith, performing), search rules)

pub returns-in_err-shown : goal.returns-in_err-shown
unfolding missing_message
returns-in_err-shown g c = first_of (grind (arith, performing), search rules)

pub returns-in_err-text : goal.returns-in_err-text
unfolding missing_message
returns-in_err-text g c = first_of (grind (arith, performing), search rules)
