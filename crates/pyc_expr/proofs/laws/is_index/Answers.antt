use Rattle.pyc_expr.proofs.Deep.{indexes}
use Rattle.pyc_expr.proofs.laws.is_index.Goals as goal

pub returns : goal.returns
returns c = indexes
