use Rattle.std.proofs.Common.{map, drop}
use Rattle.pyc_ast.specs.StatementView.{imported_of}
use Rattle.pyc_imports.specs.ImportReadings.{module_checked}
use Rattle.pyc_reading.specs.Traces.{Going}
use Rattle.pyc_reading.specs.Readings.{each}
use Rattle.pyc_imports.proofs.imports.ImportReader.read_modules.Given as goal

-- what is left to do comes to the same as all
abbrev pub invariant-loop-imported : goal.invariant-loop-imported
invariant-loop-imported g l =
    Going (each (module_checked l.self.options l.self.at) (map imported_of (drop l.imported-index l.modules))) (g.N.Ask.trace l.recorder)
    (each (module_checked l.self.options l.self.at) (map imported_of l.modules)) (g.N.Ask.trace l.fn.recorder)
