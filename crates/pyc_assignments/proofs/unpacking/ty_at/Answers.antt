use Rattle.pyc_subscripts.proofs.RowLemmas.{found_at}
use Rattle.pyc_assignments.proofs.unpacking.ty_at.Goals as goal

pub returns : goal.returns
returns c = found_at c.args.items.now c.args.index c.get.result c.get.ensures.lookup.0 c.get.ensures.lookup.1
