-- Which units a check examines: those of the files that are new or have other bytes than at the last completed check,
-- and those of whose reads then some key has another answer now.
use Rattle.std.specs.Prelude.{Bool, not, ◌&&◌, ◌||◌, bytes_eq, List, map, filter, flat_map}
use Rattle.std.specs.List.{list_any}
use Rattle.pyc_body.specs.FileUnits.{FileUnit, UnitId, file_units, id_of}
use Rattle.pyc_body.specs.FoundMessages.{reads}
use Rattle.pyc_iface.specs.Answers.{answer_of}
use Rattle.pyc_iface.specs.declared.options.Options.{Options}
use Rattle.pyc_reading.specs.Answers.{Answer}
use Rattle.pyc_reading.specs.Keys.{Key}
use Rattle.pyc_known_answers.specs.Changes.{is_changed}
use Rattle.pyc_workspace.specs.Fresh.{source_of, sources_of}
use Rattle.pyc_workspace.specs.Workspace.{File}

-- ---- files

-- whether two files have the same path and the same bytes
abbrev pub same_file : File → File → Bool
same_file a b = bytes_eq a.path b.path && bytes_eq a.bytes b.bytes

-- whether a file stands among these as it is; one that does not is new, or has other bytes
unfoldable pub is_unchanged : List File → File → Bool
is_unchanged files file = list_any (same_file file) files

-- what files answer
unfoldable pub answers_of : List File → Key → Answer
answers_of files = answer_of (sources_of files)

-- ---- units

-- the reads of a unit, where its file stands among these
abbrev pub reads_among : Options → List File → FileUnit → List Key
reads_among options files unit = reads options (sources_of files) unit.file unit.unit

-- whether some key of the reads of a unit at the last completed check has another answer now
abbrev pub reads_anew : Options → (last present : List File) → FileUnit → Bool
reads_anew options last present unit =
    list_any (is_changed (answers_of last) (answers_of present)) (reads_among options last unit)

-- whether a unit of a file that is present is examined
abbrev pub is_examined : Options → (last present : List File) → File → FileUnit → Bool
is_examined options last present file unit =
    not (is_unchanged last file) || reads_anew options last present unit

-- the units of a file that are examined, in order
abbrev pub examined_in : Options → (last present : List File) → File → List UnitId
examined_in options last present file =
    map id_of (filter (is_examined options last present file) (file_units (source_of file)))

-- the units that a check examines, in order
unfoldable pub examined : Options → (last present : List File) → List UnitId
examined options last present = flat_map (examined_in options last present) present
