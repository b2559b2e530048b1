use Rattle.pyc_obligations.proofs.Steps.{performing}
use Rattle.std.proofs.Common.{arith, rules}
use Rattle.pyc_overrides.proofs.overrides.read_body.Goals as goal

pub returns : goal.returns
returns g c = first_of (grind (arith, performing), search rules)

pub returns-in_err-parts : goal.returns-in_err-parts
returns-in_err-parts g c = first_of (grind (arith, performing), search rules)
