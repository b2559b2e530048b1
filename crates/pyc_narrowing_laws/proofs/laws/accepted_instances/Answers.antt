use Rattle.pyc_narrowing_laws.proofs.InstanceLemmas.{narrow_to_keeps}
use Rattle.pyc_narrowing_laws.proofs.laws.accepted_instances.Goals as goal

pub returns : goal.returns
returns c = narrow_to_keeps
