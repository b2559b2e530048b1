use Rattle.pyc_expression_laws.proofs.OperatorLemmas.{comparison_asks}
use Rattle.pyc_expression_laws.proofs.operators.comparison_asks.Goals as goal

pub returns : goal.returns
returns c = comparison_asks
