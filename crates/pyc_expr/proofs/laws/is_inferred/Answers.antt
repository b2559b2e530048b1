use Rattle.pyc_expr.proofs.Deep.{inferred}
use Rattle.pyc_expr.proofs.laws.is_inferred.Goals as goal

pub returns : goal.returns
returns c = inferred
