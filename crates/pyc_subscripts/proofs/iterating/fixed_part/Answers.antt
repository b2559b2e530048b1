use Rattle.pyc_subscripts.proofs.RowLemmas.{nonempty_part}
use Rattle.pyc_subscripts.proofs.iterating.fixed_part.Goals as goal

pub returns-else-is_empty : goal.returns-else-is_empty
returns-else-is_empty c = rw (nonempty_part c.args.items.now c.if-is_empty.ensures) c.union_of.ensures
