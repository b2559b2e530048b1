-- What is found in the units of a file: in its header, what is reported of imports and definitions; in the body of its
-- module, what is reported of its statements; in a function or a method, what is reported of its signature, its
-- defaults, its statements and its end; in a class, what is reported of its bases, its order, its body and what its
-- ancestors declare as well. Each unit is one reading, and its reads are the keys that this asks.
use Rattle.std.specs.Prelude.{List, [], flat_map}
use Rattle.pyc_ast.specs.Modules.{Outcome, tree, fault}
use Rattle.pyc_body.specs.FileUnits.{FileUnit}
use Rattle.pyc_recorder.specs.CheckedView.{Checked, check_of}
use Rattle.pyc_report.specs.FoundOrder.{in_order}
use Rattle.pyc_units.specs.UnitReadings.{unit_reading}
use Rattle.pyc_units.specs.Units as units
use Rattle.pyc_iface.specs.Answers.{answer_by, answer_of}
use Rattle.pyc_iface.specs.declared.options.Options.{Options}
use Rattle.pyc_names.specs.Interfaces.{Interface}
use Rattle.pyc_names.specs.SourceFiles.{SourceFile}
use Rattle.pyc_reading.specs.Traces.{Trace, with_keys}
use Rattle.pyc_reading.specs.Keys.{Key}
use Rattle.pyc_reading.specs.Readings.{asked, reported}
use Rattle.pyc_report.specs.Message.{Message}
use Rattle.pyc_report.specs.Suppressing.{without_suppressed}

-- ---- one unit

-- what is reported in it, over the answers of these files
abbrev pub reported_in : Options → List SourceFile → SourceFile → units.Unit → List Message
reported_in options files file unit = reported (answer_of files) (unit_reading options file unit)

-- what is found in it: what is reported, in order, each line, code and text once
abbrev pub found : Options → List SourceFile → SourceFile → units.Unit → List Message
found options files file unit = in_order (reported_in options files file unit)

-- its reads: the keys that are asked there, each once and in the order in which they are first asked
abbrev pub reads : Options → List SourceFile → SourceFile → units.Unit → List Key
reads options files file unit = with_keys [] (asked (answer_of files) (unit_reading options file unit))

-- the trace at which it was read, over the answers of files with these interfaces
abbrev pub trace_by : Options → List Interface → FileUnit → Trace
trace_by options interfaces unit =
    let reading = unit_reading options unit.file unit.unit in
    record {
      answers = answer_by interfaces;
      keys = with_keys [] (asked (answer_by interfaces) reading);
      messages = reported (answer_by interfaces) reading;
    }

-- what a check of it comes to, over these answers
abbrev pub checked_by : Options → List Interface → FileUnit → Checked
checked_by options interfaces unit =
    let reading = unit_reading options unit.file unit.unit in
    check_of (with_keys [] (asked (answer_by interfaces) reading)) (in_order (reported (answer_by interfaces) reading))

-- what it comes to over these files
abbrev pub checked : Options → List SourceFile → FileUnit → Checked
checked options files unit =
    check_of (reads options files unit.file unit.unit) (found options files unit.file unit.unit)

-- ---- the whole

-- what is found in all units of a file
abbrev pub found_in_units : Options → List SourceFile → SourceFile → List Message
found_in_units options files file = flat_map (found options files file) (units.file_units file.outcome)

-- the messages of a file that its ignore comments do not suppress; a file with a fault has none
abbrev pub without_ignored : Outcome → List Message → List Message
without_ignored (tree m) messages = without_suppressed m messages
without_ignored (fault line text) messages = messages

-- the unsuppressed messages of a file
unfoldable pub unsuppressed : Options → List SourceFile → SourceFile → List Message
unsuppressed options files file = without_ignored file.outcome (found_in_units options files file)
