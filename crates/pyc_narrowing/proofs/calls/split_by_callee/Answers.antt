use Rattle.pyc_narrowing.specs.Splitting.{callee_rule}
use Rattle.pyc_obligations.proofs.Steps.{performing}
use Rattle.std.proofs.Common.{arith, rules}
use Rattle.pyc_narrowing.proofs.calls.split_by_callee.Goals as goal

pub returns-in_err-found : goal.returns-in_err-found
unfolding callee_rule
returns-in_err-found g c = first_of (grind (arith, performing), search rules)

pub returns : goal.returns
unfolding callee_rule
returns g c = first_of (grind (arith, performing), search rules)
