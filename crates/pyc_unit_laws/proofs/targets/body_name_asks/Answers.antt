use Rattle.pyc_unit_laws.proofs.TargetLemmas.{body_name_asks}
use Rattle.pyc_unit_laws.proofs.targets.body_name_asks.Goals as goal

pub returns : goal.returns
returns c = body_name_asks
