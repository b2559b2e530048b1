use Rattle.pyc_subscripts.specs.Subscripts.{report_out_of_range}
use Rattle.pyc_subscripts.proofs.Steps.{performing}
use Rattle.std.proofs.Common.{arith, rules}
use Rattle.pyc_subscripts.proofs.messages.report_out_of_range.Goals as goal

pub returns-in_err-text : goal.returns-in_err-text
unfolding report_out_of_range
returns-in_err-text g c = first_of (grind (arith, performing), search rules)

pub returns-in_err-report_error : goal.returns-in_err-report_error
unfolding report_out_of_range
returns-in_err-report_error g c = first_of (grind (arith, performing), search rules)
