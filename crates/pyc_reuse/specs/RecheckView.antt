-- A check after another, as plain values.
use Rattle.std.specs.Prelude.{◌≡◌, ℕ, Bool, true, false, bytes_eq, string_bytes, List}
use Rattle.std.specs.declared.alloc.Global.{Global}
use Rattle.std.specs.List.{Contains}
use Rattle.std.specs.declared.string.String.{String}
use Rattle.indexmap.specs.IndexSet.{IndexSet, contains_by}
use Rattle.pyc_iface.specs.declared.options.Options.{Options}
use Rattle.pyc_reuse.specs.declared.recheck.Recheck.{Recheck}
use Rattle.pyc_reuse.specs.Examined.{is_unchanged}
use Rattle.pyc_workspace.specs.Files.{files_in}
use Rattle.pyc_workspace.specs.Workspace.{File, has_file}

-- the options, the files at the last check, and the files that are present
abbrev pub options_in : Recheck → Options
options_in recheck = recheck.last.now.options

abbrev pub last_in : Recheck → List File
last_in recheck = recheck.last.now.files

abbrev pub present_in : Recheck → List File
present_in recheck = files_in recheck.present.now

-- whether a path is among these
abbrev pub is_touched : {S : Type 0} → IndexSet (String Global) S → List ℕ → Bool
is_touched touched path = contains_by (λ other. bytes_eq path (string_bytes other)) touched

-- a file that is present, whose path is not among those that were touched and is one of the last ones, stands among
-- these as it is
abbrev pub AreKept : {S : Type 0} → (last present : List File) → IndexSet (String Global) S → Type 0
AreKept last present touched =
    (file : File) → Contains present file → is_touched touched file.path ≡ false → has_file last file.path ≡ true
    → is_unchanged last file ≡ true
