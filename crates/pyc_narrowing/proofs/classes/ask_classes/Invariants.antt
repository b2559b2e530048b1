use Rattle.std.proofs.Common.{drop}
use Rattle.pyc_obligations.specs.Judging.{classes_asked}
use Rattle.pyc_reading.specs.Traces.{Going}
use Rattle.pyc_narrowing.proofs.classes.ask_classes.Given as goal

-- what is left to do comes to the same as all
abbrev pub invariant-loop-class : goal.invariant-loop-class
invariant-loop-class g l =
    Going (classes_asked (drop l.class-index l.classes)) (g.N.Ask.trace l.recorder) (classes_asked l.classes) (g.N.Ask.trace l.fn.recorder)
