use Rattle.pyc_unit_laws.proofs.TargetLemmas.{subscript_target_asks}
use Rattle.pyc_unit_laws.proofs.targets.subscript_target_asks.Goals as goal

pub returns : goal.returns
returns c = subscript_target_asks
