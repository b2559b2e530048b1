use Rattle.pyc_reuse.specs.Answering.{AreAlikeFirst}
use Rattle.pyc_reuse.specs.RecheckView.{last_in, present_in}
use Rattle.pyc_reuse.proofs.recheck.Recheck.common_front.Given as goal

-- those so far have the interfaces of before
abbrev pub invariant-loop-index : goal.invariant-loop-index
invariant-loop-index l = AreAlikeFirst l.index (last_in l.self) (present_in l.self)
