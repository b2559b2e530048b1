use Rattle.std.proofs.Common.{drop}
use Rattle.pyc_annotations.specs.Annotations.{attributes}
use Rattle.pyc_annotations.specs.Views.{meaning_of}
use Rattle.pyc_reading.specs.Traces.{Going}
use Rattle.pyc_annotations.proofs.lookup.attributes.Given as goal

-- what is left to do comes to the same as all
abbrev pub invariant-loop-name : goal.invariant-loop-name
invariant-loop-name g l =
    Going (attributes l.role l.at (drop l.name-index l.names) (meaning_of l.found)) (g.N.Ask.trace l.recorder)
    (attributes l.role l.at l.names (meaning_of l.fn.found)) (g.N.Ask.trace l.fn.recorder)
