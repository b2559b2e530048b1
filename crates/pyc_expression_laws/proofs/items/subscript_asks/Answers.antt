use Rattle.pyc_expression_laws.proofs.ItemLemmas.{subscript_asks}
use Rattle.pyc_expression_laws.proofs.items.subscript_asks.Goals as goal

pub returns : goal.returns
returns c = subscript_asks
