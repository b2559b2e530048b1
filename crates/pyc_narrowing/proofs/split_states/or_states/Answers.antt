use Rattle.std.proofs.Common.{arith, rules}
use Rattle.std.proofs.lemmas.Grind.{common_steps}
use Rattle.pyc_narrowing.proofs.split_states.or_states.Goals as goal

pub returns : goal.returns
returns c = first_of (grind (arith, common_steps), search rules)

pub returns-in_err-if_true : goal.returns-in_err-if_true
returns-in_err-if_true c = first_of (grind (arith, common_steps), search rules)
