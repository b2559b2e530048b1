use Rattle.pyc_expression_laws.proofs.ItemLemmas.{iteration_asks}
use Rattle.pyc_expression_laws.proofs.items.iteration_asks.Goals as goal

pub returns : goal.returns
returns c = iteration_asks
