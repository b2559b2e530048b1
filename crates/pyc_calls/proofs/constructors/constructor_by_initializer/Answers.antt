use Rattle.pyc_calls.specs.Constructors.{constructor_by_initializer}
use Rattle.pyc_obligations.proofs.Steps.{performing}
use Rattle.std.proofs.Common.{arith, rules}
use Rattle.pyc_calls.proofs.constructors.constructor_by_initializer.Goals as goal

pub returns-in_err-found : goal.returns-in_err-found
unfolding constructor_by_initializer
returns-in_err-found g c = first_of (grind (arith, performing), search rules)

pub returns : goal.returns
unfolding constructor_by_initializer
returns g c = first_of (grind (arith, performing), search rules)
