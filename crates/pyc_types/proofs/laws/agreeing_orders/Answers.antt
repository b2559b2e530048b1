use Rattle.pyc_types.proofs.AgreeLemmas.{agreeing_orders}
use Rattle.pyc_types.proofs.laws.agreeing_orders.Goals as goal

pub returns : goal.returns
returns c = agreeing_orders
