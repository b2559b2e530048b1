use Rattle.pyc_annotations.specs.Meanings.{own_name}
use Rattle.pyc_annotations.proofs.Steps.{performing}
use Rattle.std.proofs.Common.{arith, rules}
use Rattle.pyc_annotations.proofs.lookup.own_name.Goals as goal

pub returns-in_err-found : goal.returns-in_err-found
unfolding own_name
returns-in_err-found g c = first_of (grind (arith, performing), search rules)

pub returns : goal.returns
unfolding own_name
returns g c = first_of (grind (arith, performing), search rules)
