use Rattle.pyc_expr.proofs.Deep.{splits}
use Rattle.pyc_expr.proofs.laws.is_split.Goals as goal

pub returns : goal.returns
returns c = splits
