-- Files of the code as plain values.
use Rattle.std.specs.Prelude.{List, map}
use Rattle.std.specs.declared.rc.Rc.{Rc}
use Rattle.std.specs.Global.{Global}
use Rattle.pyc_workspace.specs.declared.file.File.{File as Declared}
use Rattle.pyc_names.specs.SourceFileView.{source_in}
use Rattle.pyc_workspace.specs.Workspace.{File}

-- a file as plain values
abbrev pub file_in : Declared → File
file_in file = record { path = (source_in file.source.value).path; bytes = file.bytes.items }

-- shared files as plain values
abbrev pub files_in : List (Rc Declared Global) → List File
files_in files = map (λ file. file_in file.value) files
