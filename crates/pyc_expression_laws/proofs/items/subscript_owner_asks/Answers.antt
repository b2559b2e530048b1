use Rattle.pyc_expression_laws.proofs.ItemLemmas.{subscript_owner_asks}
use Rattle.pyc_expression_laws.proofs.items.subscript_owner_asks.Goals as goal

pub returns : goal.returns
returns c = subscript_owner_asks
