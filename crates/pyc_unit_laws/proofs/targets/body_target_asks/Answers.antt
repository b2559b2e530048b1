use Rattle.pyc_unit_laws.proofs.TargetLemmas.{body_target_asks}
use Rattle.pyc_unit_laws.proofs.targets.body_target_asks.Goals as goal

pub returns : goal.returns
returns c = body_target_asks
