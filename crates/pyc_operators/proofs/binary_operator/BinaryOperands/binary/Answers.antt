use Rattle.std.proofs.Common.{arith, rules}
use Rattle.std.proofs.lemmas.Grind.{common_steps}
use Rattle.pyc_operators.proofs.binary_operator.BinaryOperands.binary.Goals as goal

pub returns : goal.returns
returns g c = first_of (grind (arith, common_steps), search rules)
