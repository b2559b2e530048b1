-- Where files that are as they were stood at the last check.
use Rattle.std.specs.Prelude.{ℕ, ◌<◌, List, [], Option, None, Some, length, slice_index_or, ⊤}
use Rattle.std.specs.List.{position_from}
use Rattle.pyc_interfaces.specs.BareInterfaces.{bare_interface}
use Rattle.pyc_names.specs.Interfaces.{Interface, interface_of}
use Rattle.pyc_reuse.specs.Examined.{same_file}
use Rattle.pyc_workspace.specs.Fresh.{source_of}
use Rattle.pyc_workspace.specs.Workspace.{File}

-- where a file stands among these as it is, if it does
unfoldable pub place_in : List File → File → Option ℕ
place_in files file = position_from (same_file file) 0 files

-- the file at a place
abbrev pub file_at : List File → ℕ → File
file_at files place = slice_index_or files place (record { path = []; bytes = [] })

-- a place, where there is one, is that of a file
abbrev pub IsPlace : List File → Option ℕ → Type 0
IsPlace files None = ⊤
IsPlace files (Some place) = place < length files

-- the interface of a file, but for positions
abbrev pub bare_of : File → Interface
bare_of file = bare_interface (interface_of (source_of file))
