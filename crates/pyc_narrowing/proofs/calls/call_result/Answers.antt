use Rattle.std.proofs.Common.{arith, rules}
use Rattle.std.proofs.lemmas.Grind.{common_steps}
use Rattle.pyc_narrowing.proofs.calls.call_result.Goals as goal

pub returns-in-IsInstance : goal.returns-in-IsInstance
returns-in-IsInstance g c = first_of (grind (arith, common_steps), search rules)

pub returns-in_default : goal.returns-in_default
returns-in_default g c = first_of (grind (arith, common_steps), search rules)
