-- What a check of files from scratch finds and examines.
use Rattle.std.specs.Prelude.{ℕ, zero, suc, ◌+◌, List, [], ◌∷◌, map, flat_map, take, drop}
use Rattle.pyc_body.specs.FileUnits as parts
use Rattle.pyc_body.specs.FoundMessages as body
use Rattle.pyc_body.specs.FoundMessages.{unsuppressed, without_ignored}
use Rattle.pyc_recorder.specs.CheckedView.{Checked}
use Rattle.pyc_units.specs.declared.unit.UnitId.{UnitId}
use Rattle.pyc_report.specs.Message.{Message}
use Rattle.pyc_report.specs.Report.{Report, Found, report_of}
use Rattle.pyc_units.specs.Units.{unit_count}
use Rattle.pyc_iface.specs.declared.options.Options.{Options}
use Rattle.pyc_names.specs.SourceFiles.{SourceFile, source_file}
use Rattle.pyc_lower.specs.Reading.{read_of}
use Rattle.pyc_workspace.specs.Workspace.{File, Unit}

-- a file as names see it
abbrev pub source_of : File → SourceFile
source_of file = source_file file.path (read_of file.bytes)

-- which of these files count for one another, as names see them: all of them
abbrev pub sources_of : List File → List SourceFile
sources_of files = map source_of files

-- what is reported of a file that stands among these
abbrev pub checked : Options → List SourceFile → File → Found
checked options files file = record { path = file.path; messages = unsuppressed options files (source_of file) }

-- the report of a check of these files from scratch
unfoldable pub fresh : Options → List File → Report
fresh options files = report_of (map (checked options (sources_of files)) files)

-- what is reported of a file, in whose units this was found
abbrev pub reported_of : File → List (List Message) → Found
reported_of file found =
    record { path = file.path; messages = without_ignored (read_of file.bytes) (flat_map (λ messages. messages) found) }

-- what is reported of files, from what was found in each of their units, in the order of the units
abbrev pub reported_by : List File → List (List Message) → List Found
reported_by [] found = []
reported_by (file ∷ files) found =
    let count = unit_count (read_of file.bytes) in
    reported_of file (take count found) ∷ reported_by files (drop count found)

-- what comes of the units of these files, checked over one another
abbrev pub checks_of : Options → List File → List Checked
checks_of options files =
    let sources = sources_of files in
    map (body.checked options sources) (parts.units_of sources)

-- so many units of the file of a path, the first with this number
unfoldable pub number_units : List ℕ → ℕ → ℕ → List Unit
number_units path from zero = []
number_units path from (suc n) = record { path = path; index = from } ∷ number_units path (from + 1) n

-- the units of a file
abbrev pub file_units : File → List Unit
file_units file = number_units file.path 0 (unit_count (read_of file.bytes))

-- the units of all files, in order
abbrev pub units_of : List File → List Unit
units_of files = flat_map file_units files

-- a unit as plain values
abbrev pub unit_in : UnitId → Unit
unit_in unit = record { path = unit.path.now; index = unit.index }
