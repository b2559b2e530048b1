use Rattle.pyc_targets.specs.ItemTargets.{source_target}
use Rattle.pyc_obligations.proofs.Steps.{performing}
use Rattle.std.proofs.Common.{arith, rules}
use Rattle.pyc_targets.proofs.item_targets.source_target.Goals as goal

pub returns : goal.returns
unfolding source_target
returns g c = first_of (grind (arith, performing), search rules)

pub returns-in_err-is_unknown : goal.returns-in_err-is_unknown
unfolding source_target
returns-in_err-is_unknown g c = first_of (grind (arith, performing), search rules)
