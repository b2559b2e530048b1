use Rattle.pyc_obligations.proofs.Steps.{performing}
use Rattle.std.proofs.Common.{arith, rules}
use Rattle.pyc_expr_forms.proofs.revealing.type_reported.Goals as goal

pub returns-in_err-text : goal.returns-in_err-text
returns-in_err-text g c = first_of (grind (arith, performing), search rules)

pub returns-in_err-report_note : goal.returns-in_err-report_note
returns-in_err-report_note g c = first_of (grind (arith, performing), search rules)

pub returns : goal.returns
returns g c = first_of (grind (arith, performing), search rules)
