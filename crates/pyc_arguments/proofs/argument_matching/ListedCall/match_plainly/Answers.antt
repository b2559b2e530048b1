use Rattle.pyc_arguments.specs.Matched.{plainly_matched}
use Rattle.pyc_obligations.proofs.Steps.{performing}
use Rattle.std.proofs.Common.{arith, rules}
use Rattle.pyc_arguments.proofs.argument_matching.ListedCall.match_plainly.Goals as goal

pub returns-in_err-filling : goal.returns-in_err-filling
unfolding plainly_matched
returns-in_err-filling g c = first_of (grind (arith, performing), search rules)

pub returns : goal.returns
unfolding plainly_matched
returns g c = first_of (grind (arith, performing), search rules)
