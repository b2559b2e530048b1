use Rattle.std.proofs.Common.{drop}
use Rattle.pyc_ast.specs.StatementView.{import_from_of}
use Rattle.pyc_imports.specs.ImportReadings.{name_checked}
use Rattle.pyc_names.specs.InterfaceView.{interface_in}
use Rattle.pyc_reading.specs.Traces.{Going}
use Rattle.pyc_reading.specs.Readings.{each}
use Rattle.pyc_imports.proofs.imports.ImportReader.read_aliases.Given as goal

-- what is left to do comes to the same as all
abbrev pub invariant-loop-alias : goal.invariant-loop-alias
invariant-loop-alias g l =
    Going (each (name_checked l.self.options (interface_in l.file) l.self.at (import_from_of l.from)) (drop l.alias-index l.alias-items)) (g.N.Ask.trace l.recorder)
    (each (name_checked l.self.options (interface_in l.file) l.self.at (import_from_of l.from)) l.alias-items) (g.N.Ask.trace l.fn.recorder)
