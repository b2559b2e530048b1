use Rattle.pyc_operators.specs.Binary.{finish_union}
use Rattle.pyc_operators.proofs.Steps.{performing}
use Rattle.std.proofs.Common.{arith, rules}
use Rattle.pyc_operators.proofs.binary_operator.BinaryOperands.finish_union.Goals as goal

pub returns : goal.returns
unfolding finish_union
returns g c = first_of (grind (arith, performing), search rules)

pub returns-then-results : goal.returns-then-results
unfolding finish_union
returns-then-results g c = first_of (grind (arith, performing), search rules)
