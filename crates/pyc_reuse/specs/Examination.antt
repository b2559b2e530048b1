-- The examination of units over a checker.
use Rattle.std.specs.Prelude.{◌≡◌, List}
use Rattle.pyc_body.specs.CheckerView as checker
use Rattle.pyc_iface.specs.declared.options.Options.{Options}
use Rattle.pyc_reuse.specs.declared.examining.Examination.{Examination}
use Rattle.pyc_reuse.specs.RecheckView as recheck
use Rattle.pyc_workspace.specs.Workspace.{File}

-- the options, the files at the last check, and those that are present
abbrev pub options_in : Examination → Options
options_in examination = recheck.options_in examination.recheck

abbrev pub last_in : Examination → List File
last_in examination = recheck.last_in examination.recheck

abbrev pub present_in : Examination → List File
present_in examination = recheck.present_in examination.recheck

-- its checker has these options
abbrev pub HasOptions : Examination → Type 0
HasOptions examination = checker.options_in examination.checker ≡ options_in examination
