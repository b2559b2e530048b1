use Rattle.std.proofs.Common.{arith, rules}
use Rattle.std.proofs.lemmas.Grind.{common_steps}
use Rattle.pyc_overrides.proofs.overrides.read_subclass.Goals as goal

pub returns : goal.returns
returns g c = first_of (grind (arith, common_steps), search rules)

pub returns-in_err-names : goal.returns-in_err-names
returns-in_err-names g c = first_of (grind (arith, common_steps), search rules)
