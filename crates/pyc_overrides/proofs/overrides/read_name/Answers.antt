use Rattle.std.proofs.Common.{arith, rules}
use Rattle.std.proofs.lemmas.Grind.{common_steps}
use Rattle.pyc_overrides.proofs.overrides.read_name.Goals as goal

pub returns-else-is_exempt : goal.returns-else-is_exempt
returns-else-is_exempt g c = first_of (grind (arith, common_steps), search rules)

pub returns-then-is_exempt : goal.returns-then-is_exempt
returns-then-is_exempt g c = first_of (grind (arith, common_steps), search rules)
