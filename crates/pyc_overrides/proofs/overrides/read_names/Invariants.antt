use Rattle.std.proofs.Common.{drop}
use Rattle.pyc_overrides.specs.Overrides.{name_read}
use Rattle.pyc_overrides.specs.Views.{subclass_of}
use Rattle.pyc_reading.specs.Traces.{Going}
use Rattle.pyc_reading.specs.Readings.{each}
use Rattle.pyc_overrides.proofs.overrides.read_names.Given as goal

-- what is left to do comes to the same as all
abbrev pub invariant-loop-name : goal.invariant-loop-name
invariant-loop-name g l =
    Going (each (name_read (subclass_of l.subclass)) (drop l.name-index l.names)) (g.N.Ask.trace l.recorder)
    (each (name_read (subclass_of l.subclass)) l.names) (g.N.Ask.trace l.fn.recorder)
