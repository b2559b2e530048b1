use Rattle.std.proofs.Common.{[], drop, map}
use Rattle.pyc_overrides.specs.Overrides.{more_required}
use Rattle.pyc_overrides.specs.Views.{required_in}
use Rattle.pyc_reading.specs.AnswerView.{member_answer_of}
use Rattle.pyc_reading.specs.Traces.{Going}
use Rattle.pyc_overrides.proofs.overrides.required_overrides.Given as goal

-- what is left to do comes to the same as all
abbrev pub invariant-loop-ancestor : goal.invariant-loop-ancestor
invariant-loop-ancestor g l =
    Going (more_required l.at l.name (member_answer_of l.got) (map required_in l.row.items) (drop l.ancestor-index l.ancestors)) (g.N.Ask.trace l.recorder)
    (more_required l.at l.name (member_answer_of l.got) [] l.ancestors) (g.N.Ask.trace l.fn.recorder)
