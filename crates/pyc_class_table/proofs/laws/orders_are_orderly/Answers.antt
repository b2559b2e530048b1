use Rattle.pyc_class_table.proofs.LawLemmas.{orders_orderly}
use Rattle.pyc_class_table.proofs.laws.orders_are_orderly.Goals as goal

pub returns : goal.returns
returns c = orders_orderly
