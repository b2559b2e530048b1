use Rattle.std.proofs.Common.{arith, rules}
use Rattle.std.proofs.lemmas.Grind.{common_steps}
use Rattle.pyc_places.proofs.states.State.is_reachable.Goals as goal

pub returns-in-Reachable : goal.returns-in-Reachable
returns-in-Reachable c = first_of (grind (arith, common_steps), search rules)

pub returns-in-Unreachable : goal.returns-in-Unreachable
returns-in-Unreachable c = first_of (grind (arith, common_steps), search rules)
