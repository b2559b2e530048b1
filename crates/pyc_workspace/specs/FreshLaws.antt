-- What holds of the report on the checks of all units of files.
use Rattle.std.specs.Prelude.{◌≡◌, List, map}
use Rattle.pyc_recorder.specs.CheckedView.{Checked}
use Rattle.pyc_iface.specs.declared.options.Options.{Options}
use Rattle.pyc_report.specs.Report.{report_of}
use Rattle.pyc_workspace.specs.Fresh.{checks_of, fresh, reported_by}
use Rattle.pyc_workspace.specs.Workspace.{File}

-- the report on what is found in the units of files, checked over one another, is that of a check from scratch
abbrev pub ReportIsFresh : Type 0
ReportIsFresh =
    (options : Options) (files : List File)
    → report_of (reported_by files (map (λ (c : Checked). c.messages) (checks_of options files))) ≡ fresh options files
