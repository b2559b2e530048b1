use Rattle.pyc_mro.proofs.LawLemmas.{keeps_orders}
use Rattle.pyc_mro.proofs.laws.orders_kept.Goals as goal

pub returns : goal.returns
returns c = keeps_orders
