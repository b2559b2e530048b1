use Rattle.std.proofs.Common.{map, drop}
use Rattle.pyc_arguments.specs.Matched.{missing_reported}
use Rattle.pyc_arguments.specs.Views.{call_in}
use Rattle.pyc_matching.specs.Views.{missing_in}
use Rattle.pyc_reading.specs.Traces.{Going}
use Rattle.pyc_reading.specs.Readings.{each}
use Rattle.pyc_arguments.proofs.argument_matching.report_each_missing.Given as goal

-- what is left to do comes to the same as all
abbrev pub invariant-loop-missing : goal.invariant-loop-missing
invariant-loop-missing g l =
    Going (each (missing_reported (call_in l.call)) (map missing_in (drop l.missing-index l.found))) (g.N.Ask.trace l.recorder)
    (each (missing_reported (call_in l.call)) (map missing_in l.found)) (g.N.Ask.trace l.fn.recorder)
