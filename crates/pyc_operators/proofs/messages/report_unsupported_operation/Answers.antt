use Rattle.std.proofs.Common.{arith, rules}
use Rattle.std.proofs.lemmas.Grind.{common_steps}
use Rattle.pyc_operators.proofs.messages.report_unsupported_operation.Goals as goal

pub returns-in_err-report_error : goal.returns-in_err-report_error
returns-in_err-report_error g c = first_of (grind (arith, common_steps), search rules)
