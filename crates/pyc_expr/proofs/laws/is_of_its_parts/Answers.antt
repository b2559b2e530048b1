use Rattle.pyc_expr.proofs.Deep.{of_its_parts}
use Rattle.pyc_expr.proofs.laws.is_of_its_parts.Goals as goal

pub returns : goal.returns
returns c = of_its_parts
