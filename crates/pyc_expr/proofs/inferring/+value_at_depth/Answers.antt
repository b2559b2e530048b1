use Rattle.std.proofs.Common.{arith, rules}
use Rattle.std.proofs.lemmas.Grind.{common_steps}
use Rattle.pyc_expr.proofs.inferring.+value_at_depth.Goals as goal

pub returns : goal.returns
returns g t c = first_of (grind (arith, common_steps), search rules)
