use Rattle.pyc_assignments.specs.Unpacking.{too_few}
use Rattle.pyc_obligations.proofs.Steps.{performing}
use Rattle.std.proofs.Common.{arith, rules}
use Rattle.pyc_assignments.proofs.messages.too_few.Goals as goal

pub returns-in_err-text : goal.returns-in_err-text
unfolding too_few
returns-in_err-text g c = first_of (grind (arith, performing), search rules)

pub returns-in_err-report_error : goal.returns-in_err-report_error
unfolding too_few
returns-in_err-report_error g c = first_of (grind (arith, performing), search rules)
