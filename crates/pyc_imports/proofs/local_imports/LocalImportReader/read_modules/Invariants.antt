use Rattle.std.proofs.Common.{map, drop}
use Rattle.pyc_ast.specs.StatementView.{imported_of}
use Rattle.pyc_imports.specs.LocalImports.{modules_read}
use Rattle.pyc_locals.specs.Views.{flow_state_in}
use Rattle.pyc_reading.specs.Traces.{Going}
use Rattle.pyc_imports.proofs.local_imports.LocalImportReader.read_modules.Given as goal

-- what is left to do comes to the same as all
abbrev pub invariant-loop-imported : goal.invariant-loop-imported
invariant-loop-imported g l =
    Going (modules_read l.self.imports.options l.self.imports.at (map imported_of (drop l.imported-index l.modules)) (flow_state_in l.flow_state)) (g.N.Ask.trace l.recorder)
    (modules_read l.self.imports.options l.self.imports.at (map imported_of l.modules) (flow_state_in l.fn.flow_state)) (g.N.Ask.trace l.fn.recorder)
