use Rattle.std.proofs.Common.{arith, rules}
use Rattle.std.proofs.lemmas.Grind.{common_steps}
use Rattle.pyc_expr.specs.Values.{infer, most_depth}
use Rattle.pyc_expr.proofs.inferring.infer.Goals as goal

pub returns : goal.returns
unfolding infer most_depth
returns g c = first_of (grind (arith, common_steps), search rules)
