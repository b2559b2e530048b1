use Rattle.std.proofs.Common.{arith, rules}
use Rattle.std.proofs.lemmas.Grind.{common_steps}
use Rattle.pyc_narrowing.proofs.truth.split_typed_place.Goals as goal

pub returns-in-Fixed-TypeChecking : goal.returns-in-Fixed-TypeChecking
returns-in-Fixed-TypeChecking c = first_of (grind (arith, common_steps), search rules)

pub returns-in_default : goal.returns-in_default
returns-in_default c = first_of (grind (arith, common_steps), search rules)
