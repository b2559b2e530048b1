use Rattle.pyc_targets.specs.AttributeTargets.{read_only}
use Rattle.pyc_obligations.proofs.Steps.{performing}
use Rattle.std.proofs.Common.{arith, rules}
use Rattle.pyc_targets.proofs.messages.read_only.Goals as goal

pub returns : goal.returns
unfolding read_only
returns g c = first_of (grind (arith, performing), search rules)

pub returns-in_err-report_error : goal.returns-in_err-report_error
unfolding read_only
returns-in_err-report_error g c = first_of (grind (arith, performing), search rules)

pub returns-in_err-text : goal.returns-in_err-text
unfolding read_only
returns-in_err-text g c = first_of (grind (arith, performing), search rules)
