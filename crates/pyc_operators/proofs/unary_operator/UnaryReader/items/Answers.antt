use Rattle.std.proofs.Common.{arith, rules}
use Rattle.std.proofs.lemmas.Grind.{common_steps}
use Rattle.pyc_operators.proofs.unary_operator.UnaryReader.items.Goals as goal

pub returns : goal.returns
returns g c = first_of (grind (arith, common_steps), search rules)

pub returns-in_err-operands : goal.returns-in_err-operands
returns-in_err-operands g c = first_of (grind (arith, common_steps), search rules)
