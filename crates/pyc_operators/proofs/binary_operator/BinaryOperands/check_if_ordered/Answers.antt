use Rattle.std.proofs.Common.{arith, rules}
use Rattle.std.proofs.lemmas.Grind.{common_steps}
use Rattle.pyc_operators.proofs.binary_operator.BinaryOperands.check_if_ordered.Goals as goal

pub returns-in-None : goal.returns-in-None
returns-in-None g c = first_of (grind (arith, common_steps), search rules)

pub returns-in-Some : goal.returns-in-Some
returns-in-Some g c = first_of (grind (arith, common_steps), search rules)
