use Rattle.pyc_calls.proofs.DepthLemmas.{is_deep_enough}
use Rattle.pyc_calls.proofs.laws.is_deep_enough.Goals as goal

pub returns : goal.returns
returns c = is_deep_enough
