use Rattle.pyc_subscripts.specs.Iteration.{not_iterable}
use Rattle.pyc_subscripts.proofs.Steps.{performing}
use Rattle.std.proofs.Common.{arith, rules}
use Rattle.pyc_subscripts.proofs.messages.not_iterable.Goals as goal

pub returns-in_err-shown : goal.returns-in_err-shown
unfolding not_iterable
returns-in_err-shown g c = first_of (grind (arith, performing), search rules)

pub returns-in_err-text : goal.returns-in_err-text
unfolding not_iterable
returns-in_err-text g c = first_of (grind (arith, performing), search rules)

pub returns-in_err-report_error : goal.returns-in_err-report_error
unfolding not_iterable
returns-in_err-report_error g c = first_of (grind (arith, performing), search rules)
