use Rattle.std.proofs.Common.{refl, arith}
use Rattle.pyc_mro.proofs.TailLemmas.{first_here, first_later}
use Rattle.pyc_mro.proofs.counting.first_free.Goals as goal

pub returns-in-Some : goal.returns-in-Some
returns-in-Some c =
    first_here c.args.counts.now c.args.rows.now c.loop-row.row-index _ _ c.requires (omega arith) c.in-Some.ensures c.loop-row.invariant
    c.in-Some.head refl

pub loop-row-preserved : goal.loop-row-preserved
loop-row-preserved c =
    first_later c.args.counts.now c.args.rows.now c.loop-row.row-index _ _ c.requires (omega arith) c.in_default.ensures c.loop-row.invariant refl
