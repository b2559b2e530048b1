use Rattle.std.proofs.Common.{arith, rules}
use Rattle.std.proofs.lemmas.Grind.{common_steps}
use Rattle.pyc_narrowing.proofs.narrowed.instance_states.Goals as goal

pub returns : goal.returns
returns g c = first_of (grind (arith, common_steps), search rules)

pub returns-in_err-narrow_state : goal.returns-in_err-narrow_state
returns-in_err-narrow_state g c = first_of (grind (arith, common_steps), search rules)

pub returns-in_err-narrow_state-2 : goal.returns-in_err-narrow_state-2
returns-in_err-narrow_state-2 g c = first_of (grind (arith, common_steps), search rules)

pub returns-in_err-outside : goal.returns-in_err-outside
returns-in_err-outside g c = first_of (grind (arith, common_steps), search rules)

pub returns-in_err-within : goal.returns-in_err-within
returns-in_err-within g c = first_of (grind (arith, common_steps), search rules)
