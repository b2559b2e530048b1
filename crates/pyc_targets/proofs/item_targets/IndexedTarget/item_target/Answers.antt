use Rattle.pyc_targets.specs.ItemTargets.{item_target}
use Rattle.pyc_obligations.proofs.Steps.{performing}
use Rattle.std.proofs.Common.{arith, rules}
use Rattle.pyc_targets.proofs.item_targets.IndexedTarget.item_target.Goals as goal

pub returns : goal.returns
unfolding item_target
returns g c = first_of (grind (arith, performing), search rules)

pub returns-in_err-found : goal.returns-in_err-found
unfolding item_target
returns-in_err-found g c = first_of (grind (arith, performing), search rules)

pub returns-in_err-types : goal.returns-in_err-types
unfolding item_target
returns-in_err-types g c = first_of (grind (arith, performing), search rules)
