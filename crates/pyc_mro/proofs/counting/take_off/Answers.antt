use Rattle.std.proofs.Common.{arith}
use Rattle.pyc_mro.proofs.MergeLemmas.{take_off_more}
use Rattle.pyc_mro.proofs.TailLemmas.{replaced, row_within}
use Rattle.pyc_mro.proofs.counting.take_off.Goals as goal

pub past_counted-requires : goal.past_counted-requires
past_counted-requires c = row_within c.loop-i.counts c.loop-i.rows c.loop-i.i _ (omega arith) c.loop-i.invariant.counts

pub loop-i-preserved : goal.loop-i-preserved
loop-i-preserved c =
    record {
      rows = take_off_more c.args.class c.loop-i.i c.args.rows.now c.loop-i.rows c.past_counted.result _ c.loop-i-test.true c.past_counted.ensures.row c.loop-i.invariant.rows;
      counts = replaced c.loop-i.counts _ c.loop-i.rows c.loop-i.i c.past_counted.result _ (omega arith) c.past_counted.ensures.counts c.loop-i.invariant.counts;
    }
