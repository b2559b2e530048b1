use Rattle.pyc_places.proofs.StateLemmas.{shared_same}
use Rattle.pyc_places.proofs.narrowings.NarrowingsClone.clone.Goals as goal

pub invariant_of-result : goal.invariant_of-result
invariant_of-result c = record { once = rw (shared_same _ _ c.in_ok-items.ensures.cases.0) c.args.self.now.once }

pub returns : goal.returns
returns c = record { cases = shared_same _ _ c.in_ok-items.ensures.cases.0 }
