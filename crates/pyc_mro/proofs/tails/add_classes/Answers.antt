use Rattle.std.proofs.Common.{arith}
use Rattle.pyc_mro.proofs.TailLemmas.{class_more, class_all}
use Rattle.pyc_mro.proofs.tails.add_classes.Goals as goal

pub loop-class-preserved : goal.loop-class-preserved
loop-class-preserved c =
    class_more c.args.counts.now.items c.loop-class.counts.items _ c.args.classes.now c.loop-class.class-index (omega arith)
    c.in_ok-add_class.ensures c.loop-class.invariant

pub returns : goal.returns
returns c = class_all c.args.counts.now.items c.loop-class.counts.items c.args.classes.now c.loop-class.class-index (omega arith) c.loop-class.invariant
