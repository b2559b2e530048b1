use Rattle.std.proofs.Common.{arith, rules}
use Rattle.std.proofs.lemmas.Grind.{common_steps}
use Rattle.pyc_overrides.proofs.overrides.read_declared.Goals as goal

pub returns-in-None : goal.returns-in-None
returns-in-None g c = first_of (grind (arith, common_steps), search rules)

pub returns-in_err-got-in-Some : goal.returns-in_err-got-in-Some
returns-in_err-got-in-Some g c = first_of (grind (arith, common_steps), search rules)

pub returns-in_ok-got-in-Some : goal.returns-in_ok-got-in-Some
returns-in_ok-got-in-Some g c = first_of (grind (arith, common_steps), search rules)
