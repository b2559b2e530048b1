use Rattle.pyc_types.proofs.ThroughLemmas.{is_transitive}
use Rattle.pyc_types.proofs.laws.transitive.Goals as goal

pub returns : goal.returns
returns c = is_transitive
