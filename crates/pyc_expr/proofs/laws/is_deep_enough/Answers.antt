use Rattle.pyc_expr.proofs.Deep.{deep_enough}
use Rattle.pyc_expr.proofs.laws.is_deep_enough.Goals as goal

pub returns : goal.returns
returns c = deep_enough
