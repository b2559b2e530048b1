use Rattle.pyc_reuse.specs.Answering.{AreAlikeLast}
use Rattle.pyc_reuse.specs.RecheckView.{last_in, present_in}
use Rattle.pyc_reuse.proofs.recheck.Recheck.common_back.Given as goal

-- those so far have the interfaces of before
abbrev pub invariant-loop-count : goal.invariant-loop-count
invariant-loop-count l = AreAlikeLast l.count (last_in l.self) (present_in l.self)
