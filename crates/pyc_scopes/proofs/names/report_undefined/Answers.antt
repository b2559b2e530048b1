use Rattle.std.proofs.Common.{arith, rules}
use Rattle.pyc_scopes.proofs.Steps.{performing}
use Rattle.pyc_scopes.specs.NamedValues.{report_undefined}
use Rattle.pyc_scopes.proofs.names.report_undefined.Goals as goal

pub returns-in_err-report_error : goal.returns-in_err-report_error
unfolding report_undefined
returns-in_err-report_error g c = first_of (grind (arith, performing), search rules)

pub returns-in_err-text : goal.returns-in_err-text
unfolding report_undefined
returns-in_err-text g c = first_of (grind (arith, performing), search rules)
