use Rattle.pyc_class_table.proofs.LawLemmas.{orders_kept}
use Rattle.pyc_class_table.proofs.laws.orders_kept.Goals as goal

pub returns : goal.returns
returns c = orders_kept
