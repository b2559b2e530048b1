use Rattle.std.proofs.Common.{arith, rules}
use Rattle.std.proofs.lemmas.Grind.{common_steps}
use Rattle.pyc_operators.proofs.binary_operator.BinaryOperands.pairs.Goals as goal

pub returns : goal.returns
returns g c = first_of (grind (arith, common_steps), search rules)

pub returns-in_err-lefts : goal.returns-in_err-lefts
returns-in_err-lefts g c = first_of (grind (arith, common_steps), search rules)

pub returns-in_err-rights : goal.returns-in_err-rights
returns-in_err-rights g c = first_of (grind (arith, common_steps), search rules)
