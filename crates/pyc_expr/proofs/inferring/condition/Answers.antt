use Rattle.std.proofs.Common.{arith, rules}
use Rattle.pyc_obligations.proofs.Steps.{performing}
use Rattle.pyc_expr.specs.Values.{condition}
use Rattle.pyc_expr.proofs.inferring.condition.Goals as goal

pub returns : goal.returns
unfolding condition
returns g c = first_of (grind (arith, performing), search rules)

pub returns-in_err-read : goal.returns-in_err-read
unfolding condition
returns-in_err-read g c = first_of (grind (arith, performing), search rules)
