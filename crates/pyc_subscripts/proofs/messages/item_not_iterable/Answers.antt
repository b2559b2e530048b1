use Rattle.pyc_subscripts.specs.Iteration.{item_not_iterable}
use Rattle.pyc_subscripts.proofs.Steps.{performing}
use Rattle.std.proofs.Common.{arith, rules}
use Rattle.pyc_subscripts.proofs.messages.item_not_iterable.Goals as goal

pub returns-in_err-item : goal.returns-in_err-item
unfolding item_not_iterable
returns-in_err-item g c = first_of (grind (arith, performing), search rules)

pub returns-in_err-whole : goal.returns-in_err-whole
unfolding item_not_iterable
returns-in_err-whole g c = first_of (grind (arith, performing), search rules)

pub returns-in_err-text : goal.returns-in_err-text
unfolding item_not_iterable
returns-in_err-text g c = first_of (grind (arith, performing), search rules)

pub returns-in_err-report_error : goal.returns-in_err-report_error
unfolding item_not_iterable
returns-in_err-report_error g c = first_of (grind (arith, performing), search rules)
