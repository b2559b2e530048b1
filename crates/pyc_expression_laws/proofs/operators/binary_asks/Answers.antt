use Rattle.pyc_expression_laws.proofs.OperatorLemmas.{binary_asks}
use Rattle.pyc_expression_laws.proofs.operators.binary_asks.Goals as goal

pub returns : goal.returns
returns c = binary_asks
