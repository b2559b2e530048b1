use Rattle.pyc_operators.specs.Unary.{one_item}
use Rattle.pyc_operators.proofs.Steps.{performing}
use Rattle.std.proofs.Common.{arith, rules}
use Rattle.pyc_operators.proofs.unary_operator.UnaryReader.one_item.Goals as goal

pub returns : goal.returns
unfolding one_item
returns g c = first_of (grind (arith, performing), search rules)

pub returns-in_err-sort : goal.returns-in_err-sort
unfolding one_item
returns-in_err-sort g c = first_of (grind (arith, performing), search rules)
