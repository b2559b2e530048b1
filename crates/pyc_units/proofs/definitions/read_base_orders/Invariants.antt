use Rattle.std.proofs.Common.{map, drop}
use Rattle.pyc_annotations.specs.Views.{base_of}
use Rattle.pyc_units.specs.DefinitionReadings.{base_reading}
use Rattle.pyc_reading.specs.Traces.{Going}
use Rattle.pyc_reading.specs.Readings.{each}
use Rattle.pyc_units.proofs.definitions.read_base_orders.Given as goal

-- what is left to do comes to the same as all
abbrev pub invariant-loop-base : goal.invariant-loop-base
invariant-loop-base g l =
    Going (each base_reading (map base_of (drop l.base-index l.bases))) (g.N.Ask.trace l.recorder)
    (each base_reading (map base_of l.bases)) (g.N.Ask.trace l.fn.recorder)
