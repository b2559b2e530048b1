use Rattle.std.proofs.lemmas.Grind.{common_steps}
use Rattle.std.proofs.Common.{arith, rules}
use Rattle.pyc_types.proofs.fitting.is_served.Goals as goal

pub returns-in-None : goal.returns-in-None
returns-in-None c = first_of (grind (arith, common_steps), search rules)
