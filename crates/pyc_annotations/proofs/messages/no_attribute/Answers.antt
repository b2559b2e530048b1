use Rattle.pyc_annotations.specs.Meanings.{no_attribute}
use Rattle.pyc_annotations.proofs.Steps.{performing}
use Rattle.std.proofs.Common.{arith, rules}
use Rattle.pyc_annotations.proofs.messages.no_attribute.Goals as goal

pub returns : goal.returns
unfolding no_attribute
returns g c = first_of (grind (arith, performing), search rules)

pub returns-in_err-report_error : goal.returns-in_err-report_error
unfolding no_attribute
returns-in_err-report_error g c = first_of (grind (arith, performing), search rules)

pub returns-in_err-text : goal.returns-in_err-text
unfolding no_attribute
returns-in_err-text g c = first_of (grind (arith, performing), search rules)
