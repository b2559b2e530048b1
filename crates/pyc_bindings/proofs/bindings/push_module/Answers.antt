use Rattle.std.proofs.lemmas.Grind.{common_steps}
use Rattle.std.proofs.Common.{arith, rules}
use Rattle.pyc_bindings.proofs.bindings.push_module.Goals as goal

pub returns-in-None : goal.returns-in-None
returns-in-None c = first_of (grind (arith, common_steps), search rules)

pub returns-in-Some : goal.returns-in-Some
returns-in-Some c = first_of (grind (arith, common_steps), search rules)

pub returns-in_err-clone : goal.returns-in_err-clone
returns-in_err-clone c = first_of (grind (arith, common_steps), search rules)

pub returns-in_err-clone-in-Some-first : goal.returns-in_err-clone-in-Some-first
returns-in_err-clone-in-Some-first c = first_of (grind (arith, common_steps), search rules)

pub returns-in_ok-clone-in-Some-first : goal.returns-in_ok-clone-in-Some-first
returns-in_ok-clone-in-Some-first c = first_of (grind (arith, common_steps), search rules)
