use Rattle.pyc_obligations.proofs.Steps.{performing}
use Rattle.std.proofs.Common.{arith, rules}
use Rattle.pyc_obligations.proofs.asking.ask_member.Goals as goal

pub returns : goal.returns
returns g c = first_of (grind (arith, performing), search rules)

pub returns-in_err-answer : goal.returns-in_err-answer
returns-in_err-answer g c = first_of (grind (arith, performing), search rules)

pub returns-in_err-clone : goal.returns-in_err-clone
returns-in_err-clone g c = first_of (grind (arith, performing), search rules)

pub returns-in_err-new : goal.returns-in_err-new
returns-in_err-new g c = first_of (grind (arith, performing), search rules)
