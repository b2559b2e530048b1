use Rattle.pyc_subscripts.specs.Subscripts.{subscript}
use Rattle.pyc_subscripts.proofs.Steps.{performing}
use Rattle.std.proofs.Common.{arith, rules}
use Rattle.pyc_subscripts.proofs.subscripts.subscript.Goals as goal

pub returns-in_err-types : goal.returns-in_err-types
unfolding subscript
returns-in_err-types g c = first_of (grind (arith, performing), search rules)

pub returns-in_err-found : goal.returns-in_err-found
unfolding subscript
returns-in_err-found g c = first_of (grind (arith, performing), search rules)

pub returns : goal.returns
unfolding subscript
returns g c = first_of (grind (arith, performing), search rules)
