use Rattle.pyc_obligations.proofs.Steps.{performing}
use Rattle.std.proofs.Common.{arith, rules}
use Rattle.pyc_arguments.proofs.argument_matching.ListedCall.report_unfilled.Goals as goal

pub returns-in_err-found : goal.returns-in_err-found
returns-in_err-found g c = first_of (grind (arith, performing), search rules)

pub returns : goal.returns
returns g c = first_of (grind (arith, performing), search rules)
