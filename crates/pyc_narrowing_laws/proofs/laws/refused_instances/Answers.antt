use Rattle.pyc_narrowing_laws.proofs.InstanceLemmas.{narrow_away_keeps}
use Rattle.pyc_narrowing_laws.proofs.laws.refused_instances.Goals as goal

pub returns : goal.returns
returns c = narrow_away_keeps
