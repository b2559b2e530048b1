use Rattle.pyc_targets.specs.ItemTargets.{unsupported_reported}
use Rattle.pyc_obligations.proofs.Steps.{performing}
use Rattle.std.proofs.Common.{arith, rules}
use Rattle.pyc_targets.proofs.messages.report_unsupported.Goals as goal

pub returns-in_err-shown : goal.returns-in_err-shown
unfolding unsupported_reported
returns-in_err-shown g c = first_of (grind (arith, performing), search rules)

pub returns-in_err-report_error : goal.returns-in_err-report_error
unfolding unsupported_reported
returns-in_err-report_error g c = first_of (grind (arith, performing), search rules)

pub returns-in_err-text : goal.returns-in_err-text
unfolding unsupported_reported
returns-in_err-text g c = first_of (grind (arith, performing), search rules)
