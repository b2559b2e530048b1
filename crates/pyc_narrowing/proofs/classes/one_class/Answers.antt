use Rattle.pyc_narrowing.specs.Splitting.{one_class}
use Rattle.pyc_obligations.proofs.Steps.{performing}
use Rattle.std.proofs.Common.{arith, rules}
use Rattle.pyc_narrowing.proofs.classes.one_class.Goals as goal

pub returns-in_err-class : goal.returns-in_err-class
unfolding one_class
returns-in_err-class g c = first_of (grind (arith, performing), search rules)

pub returns : goal.returns
unfolding one_class
returns g c = first_of (grind (arith, performing), search rules)
