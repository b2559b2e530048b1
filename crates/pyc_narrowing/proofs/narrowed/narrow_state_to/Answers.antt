use Rattle.std.proofs.Common.{arith, rules}
use Rattle.std.proofs.lemmas.Grind.{common_steps}
use Rattle.pyc_narrowing.proofs.narrowed.narrow_state_to.Goals as goal

pub returns-in_err-clone : goal.returns-in_err-clone
returns-in_err-clone c = first_of (grind (arith, common_steps), search rules)

pub returns-in_ok-clone : goal.returns-in_ok-clone
returns-in_ok-clone c = first_of (grind (arith, common_steps), search rules)

pub returns-then-same_type : goal.returns-then-same_type
returns-then-same_type c = first_of (grind (arith, common_steps), search rules)
