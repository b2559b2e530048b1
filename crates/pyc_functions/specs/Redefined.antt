-- What is reported of names that are defined again (mypy's documentation, "Check that each name is defined once").
use Rattle.std.specs.Prelude.{List}
use Rattle.pyc_bindings.specs.Bindings.{Binding}
use Rattle.pyc_bindings.specs.Redefinitions.{Redefinition, redefinitions}
use Rattle.pyc_messages.specs.Definitions as message
use Rattle.pyc_reading.specs.Traces.{Step, reporting}
use Rattle.pyc_reading.specs.Readings.{each}

abbrev pub redefinition_reading : Redefinition → Step (Unit {0})
redefinition_reading found = reporting (message.redefinition found.at found.name found.line)

-- the names that bindings define again, in turn
abbrev pub redefined_reported : List Binding → Step (Unit {0})
redefined_reported bindings = each redefinition_reading (redefinitions bindings)
