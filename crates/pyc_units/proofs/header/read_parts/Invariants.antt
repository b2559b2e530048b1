use Rattle.std.proofs.Common.{map, drop}
use Rattle.pyc_bindings.specs.ScopeView.{part_of}
use Rattle.pyc_units.specs.Header.{part_reading}
use Rattle.pyc_names.specs.SourceFileView.{source_in}
use Rattle.pyc_reading.specs.Traces.{Going}
use Rattle.pyc_reading.specs.Readings.{each}
use Rattle.pyc_units.proofs.header.read_parts.Given as goal

-- what is left to do comes to the same as all
abbrev pub invariant-loop-part : goal.invariant-loop-part
invariant-loop-part g l =
    Going (each (part_reading l.options (source_in l.file)) (map part_of (drop l.part-index l.parts))) (g.N.Ask.trace l.recorder)
    (each (part_reading l.options (source_in l.file)) (map part_of l.parts)) (g.N.Ask.trace l.fn.recorder)
