use Rattle.std.proofs.Common.{drop}
use Rattle.pyc_ast.specs.StatementView.{import_from_of}
use Rattle.pyc_imports.specs.LocalImports.{names_read}
use Rattle.pyc_locals.specs.Views.{flow_state_in}
use Rattle.pyc_names.specs.InterfaceView.{interface_in}
use Rattle.pyc_reading.specs.Traces.{Going}
use Rattle.pyc_imports.proofs.local_imports.LocalImportReader.read_names.Given as goal

-- what is left to do comes to the same as all
abbrev pub invariant-loop-alias : goal.invariant-loop-alias
invariant-loop-alias g l =
    Going (names_read l.self.imports.options (interface_in l.self.file.now) l.self.imports.at (import_from_of l.from) (drop l.alias-index l.alias-items) (flow_state_in l.flow_state)) (g.N.Ask.trace l.recorder)
    (names_read l.self.imports.options (interface_in l.self.file.now) l.self.imports.at (import_from_of l.from) l.alias-items (flow_state_in l.fn.flow_state)) (g.N.Ask.trace l.fn.recorder)
