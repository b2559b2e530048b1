use Rattle.pyc_body.proofs.ListedLemmas.{found_is_listed, found_where_listed}
use Rattle.pyc_body.proofs.OrderLemmas.{orders_are}
use Rattle.pyc_body.proofs.laws.found_is_listed.Goals as goal

pub returns-clause-listed : goal.returns-clause-listed
returns-clause-listed c = found_is_listed

pub returns-clause-just : goal.returns-clause-just
returns-clause-just c = found_where_listed

pub returns-clause-orders : goal.returns-clause-orders
returns-clause-orders c = orders_are
