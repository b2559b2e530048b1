use Rattle.pyc_annotations.specs.Bases.{invalid_base}
use Rattle.pyc_annotations.proofs.Steps.{performing}
use Rattle.std.proofs.Common.{arith, rules}
use Rattle.pyc_annotations.proofs.messages.invalid_base.Goals as goal

pub returns : goal.returns
unfolding invalid_base
returns g c = first_of (grind (arith, performing), search rules)

pub returns-in_err-report_error : goal.returns-in_err-report_error
unfolding invalid_base
returns-in_err-report_error g c = first_of (grind (arith, performing), search rules)

pub returns-in_err-text : goal.returns-in_err-text
unfolding invalid_base
returns-in_err-text g c = first_of (grind (arith, performing), search rules)
