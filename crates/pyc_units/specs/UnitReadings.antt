-- What is asked for a unit of a file, reported of it and required in it (Python reference 3.13, "Execution model").
use Rattle.pyc_ast.specs.Modules.{Outcome, tree, fault}
use Rattle.pyc_functions.specs.Bodies.{module_body_reading}
use Rattle.pyc_iface.specs.declared.options.Options.{Options}
use Rattle.pyc_names.specs.SourceFiles.{SourceFile}
use Rattle.pyc_reading.specs.Traces.{Step}
use Rattle.pyc_reading.specs.Readings.{Done}
use Rattle.pyc_units.specs.DefinitionReadings.{definition_reading, method_reading, module_body}
use Rattle.pyc_units.specs.Header.{header_reading}
use Rattle.pyc_units.specs.Units as units

-- the body of the module of a file; a file with a fault has none
abbrev pub outcome_body_reading : Options → SourceFile → Outcome → Step (Unit {0})
outcome_body_reading options file (tree m) = module_body_reading (module_body options file) m
outcome_body_reading options file (fault line text) = Done tt

-- a unit of a file
unfoldable pub unit_reading : Options → SourceFile → units.Unit → Step (Unit {0})
unit_reading options file units.header = header_reading options file
unit_reading options file units.module_body = outcome_body_reading options file file.outcome
unit_reading options file (units.definition found) = definition_reading options file found
unit_reading options file (units.method class found) = method_reading options file class found
