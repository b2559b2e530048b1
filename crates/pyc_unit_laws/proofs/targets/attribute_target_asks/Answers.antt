use Rattle.pyc_unit_laws.proofs.TargetLemmas.{attribute_target_asks}
use Rattle.pyc_unit_laws.proofs.targets.attribute_target_asks.Goals as goal

pub returns : goal.returns
returns c = attribute_target_asks
