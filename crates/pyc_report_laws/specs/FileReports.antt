-- What the report of a check of files from scratch says, by what is found in their units (mypy documentation, "Error
-- codes", "Silencing errors based on error codes").
use Rattle.std.specs.Prelude.{◌≡◌, ℕ, IsFalse, List, length}
use Rattle.std.specs.List.{Contains}
use Rattle.pyc_ast.specs.Modules.{Outcome, tree, fault}
use Rattle.pyc_body.specs.FoundMessages.{found}
use Rattle.pyc_iface.specs.declared.options.Options.{Options}
use Rattle.pyc_names.specs.SourceFiles.{SourceFile}
use Rattle.pyc_report.specs.Message.{Message}
use Rattle.pyc_report.specs.Suppressing.{is_suppressed}
use Rattle.pyc_report_laws.specs.Reports.{IsReport}
use Rattle.pyc_units.specs.Units as units
use Rattle.pyc_workspace.specs.Fresh.{fresh, source_of, sources_of}
use Rattle.pyc_workspace.specs.Workspace.{File}

-- no ignore comment of a source suppresses a message; one with a fault has none
abbrev pub IsUnsuppressed : Outcome → Message → Type 0
IsUnsuppressed (tree m) message = IsFalse (is_suppressed m message)
IsUnsuppressed (fault line text) message = Unit {0}

-- a message is found in a unit of a file, over these files, and no ignore comment of the file suppresses it
pub record IsFound (options : Options) (files : List SourceFile) (file : SourceFile) (message : Message) : Type 0 where
  pub unit : units.Unit
  pub is_unit : Contains (units.file_units file.outcome) unit
  pub is_found : Contains (found options files file unit) message
  pub stays : IsUnsuppressed file.outcome message

-- so it is of one of some files, which has this path
abbrev pub HasMessage : Options → List File → List ℕ → Message → Type 0
HasMessage options files path message =
    (file : File) × Contains files file × (file.path ≡ path)
    × IsFound options (sources_of files) (source_of file) message

-- the report of a check of files from scratch is one on these messages
abbrev pub ReportsFiles : Type 0
ReportsFiles =
    (options : Options) (files : List File)
    → IsReport (HasMessage options files) (length files) (fresh options files)
