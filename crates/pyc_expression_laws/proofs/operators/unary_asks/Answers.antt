use Rattle.pyc_expression_laws.proofs.OperatorLemmas.{unary_asks}
use Rattle.pyc_expression_laws.proofs.operators.unary_asks.Goals as goal

pub returns : goal.returns
returns c = unary_asks
