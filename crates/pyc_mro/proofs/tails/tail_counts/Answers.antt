use Rattle.std.proofs.Common.{arith}
use Rattle.pyc_mro.proofs.TailLemmas.{counted_more, counted_all}
use Rattle.pyc_mro.proofs.tails.tail_counts.Goals as goal

pub loop-row-preserved : goal.loop-row-preserved
loop-row-preserved c =
    counted_more c.loop-row.counts.items _ c.args.rows.now c.loop-row.row-index _ c.tail_of.result.now (omega arith) c.tail_of.ensures
    c.in_ok-add_classes.ensures c.loop-row.invariant

pub returns : goal.returns
returns c = counted_all c.loop-row.counts.items c.args.rows.now c.loop-row.row-index (omega arith) c.loop-row.invariant
