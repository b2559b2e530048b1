use Rattle.pyc_obligations.proofs.Steps.{performing}
use Rattle.std.proofs.Common.{arith, rules}
use Rattle.pyc_calls.proofs.caller.Caller.match_constructor.Goals as goal

pub returns-in-Bare : goal.returns-in-Bare
returns-in-Bare g c = first_of (grind (arith, performing), search rules)

pub returns-in-Typed : goal.returns-in-Typed
returns-in-Typed g c = first_of (grind (arith, performing), search rules)

pub returns-in-Unmatched : goal.returns-in-Unmatched
returns-in-Unmatched g c = first_of (grind (arith, performing), search rules)
