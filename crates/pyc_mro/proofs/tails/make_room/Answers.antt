use Rattle.std.proofs.Common.{get_or, ap, ◌∙◌}
use Rattle.pyc_mro.proofs.TailLemmas.{room_more}
use Rattle.pyc_mro.proofs.tails.make_room.Goals as goal

pub loop-counts-preserved : goal.loop-counts-preserved
loop-counts-preserved c = λ q. ap (λ l. get_or l q 0) c.in_ok-push.ensures.items ∙ room_more c.loop-counts.counts.items q ∙ c.loop-counts.invariant q
