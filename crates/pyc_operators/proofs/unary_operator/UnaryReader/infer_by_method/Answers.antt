use Rattle.std.proofs.Common.{arith, rules}
use Rattle.std.proofs.lemmas.Grind.{common_steps}
use Rattle.pyc_operators.specs.Unary.{infer_by_method}
use Rattle.pyc_operators.proofs.unary_operator.UnaryReader.infer_by_method.Goals as goal

pub returns-in-None : goal.returns-in-None
unfolding infer_by_method
returns-in-None g c = first_of (grind (arith, common_steps), search rules)

pub returns-in-Some : goal.returns-in-Some
unfolding infer_by_method
returns-in-Some g c = first_of (grind (arith, common_steps), search rules)
