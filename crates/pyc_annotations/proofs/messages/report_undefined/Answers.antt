use Rattle.pyc_annotations.specs.Meanings.{report_undefined}
use Rattle.pyc_annotations.proofs.Steps.{performing}
use Rattle.std.proofs.Common.{arith, rules}
use Rattle.pyc_annotations.proofs.messages.report_undefined.Goals as goal

pub returns : goal.returns
unfolding report_undefined
returns g c = first_of (grind (arith, performing), search rules)

pub returns-in_err-report_error : goal.returns-in_err-report_error
unfolding report_undefined
returns-in_err-report_error g c = first_of (grind (arith, performing), search rules)

pub returns-in_err-text : goal.returns-in_err-text
unfolding report_undefined
returns-in_err-text g c = first_of (grind (arith, performing), search rules)
