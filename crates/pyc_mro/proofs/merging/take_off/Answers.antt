use Rattle.pyc_mro.proofs.MergeLemmas.{take_off_more}
use Rattle.pyc_mro.proofs.merging.take_off.Goals as goal

pub loop-i-preserved : goal.loop-i-preserved
loop-i-preserved c =
    take_off_more c.args.class c.loop-i.i c.args.rows.now c.loop-i.rows c.past.result _ c.loop-i-test.true c.past.ensures c.loop-i.invariant
