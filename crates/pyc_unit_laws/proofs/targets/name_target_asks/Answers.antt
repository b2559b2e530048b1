use Rattle.pyc_unit_laws.proofs.TargetLemmas.{name_target_asks}
use Rattle.pyc_unit_laws.proofs.targets.name_target_asks.Goals as goal

pub returns : goal.returns
returns c = name_target_asks
