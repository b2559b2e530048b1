-- What a completed check leaves.
use Rattle.std.specs.Prelude.{List, map}
use Rattle.pyc_body.specs.FileUnits.{UnitId, file_units}
use Rattle.pyc_body.specs.FoundMessages as body
use Rattle.pyc_iface.specs.declared.options.Options.{Options}
use Rattle.pyc_recorder.specs.CheckedView.{Checked}
use Rattle.pyc_report.specs.Message.{Message}
use Rattle.pyc_workspace.specs.Fresh.{source_of, sources_of}
use Rattle.pyc_workspace.specs.Workspace.{File}

-- the options of a check, the files that it checked, and the units that it examined
pub record Revision : Type 0 where
  pub options : Options
  pub files : List File
  pub examined : List UnitId

-- what comes of the units of a file, in order, and the messages of the file that no ignore comment suppresses
pub record FileResult : Type 0 where
  pub checks : List Checked
  pub messages : List Message

-- what comes of a file that stands among these
abbrev pub file_result_among : Options → List File → File → FileResult
file_result_among options files file =
    record {
      checks = map (body.checked options (sources_of files)) (file_units (source_of file));
      messages = body.unsuppressed options (sources_of files) (source_of file);
    }

-- what comes of files, one by one
unfoldable pub file_results_among : Options → List File → List FileResult
file_results_among options files = map (file_result_among options files) files
