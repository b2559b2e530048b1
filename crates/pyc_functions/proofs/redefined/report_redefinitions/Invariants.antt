use Rattle.std.proofs.Common.{map, drop}
use Rattle.pyc_bindings.specs.RedefinitionView.{redefinition_of}
use Rattle.pyc_functions.specs.Redefined.{redefinition_reading}
use Rattle.pyc_reading.specs.Traces.{Going}
use Rattle.pyc_reading.specs.Readings.{each}
use Rattle.pyc_functions.proofs.redefined.report_redefinitions.Given as goal

-- what is left to do comes to the same as all
abbrev pub invariant-loop-found : goal.invariant-loop-found
invariant-loop-found g l =
    Going (each redefinition_reading (map redefinition_of (drop l.found-index l.again))) (g.N.Ask.trace l.recorder)
    (each redefinition_reading (map redefinition_of l.again)) (g.N.Ask.trace l.fn.recorder)
