use Rattle.pyc_narrowing.specs.Splitting.{class_at}
use Rattle.pyc_obligations.proofs.Steps.{performing}
use Rattle.std.proofs.Common.{arith, rules}
use Rattle.pyc_narrowing.proofs.classes.class_at.Goals as goal

pub returns-in_err-found : goal.returns-in_err-found
unfolding class_at
returns-in_err-found g c = first_of (grind (arith, performing), search rules)

pub returns : goal.returns
unfolding class_at
returns g c = first_of (grind (arith, performing), search rules)
