use Rattle.pyc_mro.proofs.LawLemmas.{holds_itself, holds_orders}
use Rattle.pyc_mro.proofs.laws.orders_held.Goals as goal

pub returns-clause-itself : goal.returns-clause-itself
returns-clause-itself c = holds_itself

pub returns-clause-others : goal.returns-clause-others
returns-clause-others c = holds_orders
