use Rattle.std.proofs.Common.{arith, rules}
use Rattle.std.proofs.lemmas.Grind.{common_steps}
use Rattle.pyc_reuse.proofs.CountLemmas.{counted_more}
use Rattle.pyc_reuse.proofs.completing.count_units.Goals as goal

pub loop-file-preserved : goal.loop-file-preserved
loop-file-preserved c =
    counted_more c.args.files.now c.loop-file.file-index _ _ c.loop-file.count _ _ _ c.loop-file-test.true c.file-item.is c.deref.ensures c.count_units.ensures (first_of (grind (arith, common_steps), search rules)) c.loop-file.invariant
