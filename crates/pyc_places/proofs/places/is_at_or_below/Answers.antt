use Rattle.std.proofs.Common.{arith, rules}
use Rattle.std.proofs.lemmas.Grind.{common_steps}
use Rattle.pyc_places.proofs.places.is_at_or_below.Goals as goal

pub returns : goal.returns
returns c = first_of (grind (arith, common_steps), search rules)
