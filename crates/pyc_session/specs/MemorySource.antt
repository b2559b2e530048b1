-- The files of a source in memory, and what a fetch from it hands over.
use Rattle.std.specs.Prelude.{◌≡◌, ◌+◌, ℕ, bytes_eq, if◌then◌else◌, List, [], ◌∷◌, map, take, string_bytes, String, Vec}
use Rattle.std.specs.Prelude.{Option, None, Some}
use Rattle.std.specs.Global.{Global}
use Rattle.std.specs.Option.{option_map}
use Rattle.pyc_session.specs.declared.memory_source.MemorySource.{MemorySource}
use Rattle.pyc_session.specs.Entry.{Entry, bytes, unreadable, no_memory}
use Rattle.pyc_session.specs.Limits.{largest_file}

-- a path and its bytes, as plain values
abbrev pub file_in : String Global × Vec ℕ Global → List ℕ × List ℕ
file_in file = (string_bytes file.0, file.1.items)

-- the paths of a source, each with its bytes
abbrev pub files_of : MemorySource → List (List ℕ × List ℕ)
files_of source = map file_in source.files.items

-- how many fetches the source could not serve
abbrev pub failures_of : MemorySource → ℕ
failures_of source = source.failures

-- the bytes of the first file of this path
abbrev pub bytes_at : List (List ℕ × List ℕ) → List ℕ → Option (List ℕ)
bytes_at [] path = None
bytes_at (file ∷ files) path = if bytes_eq file.0 path then Some file.1 else bytes_at files path

-- what one fetch hands over: the first bytes of the file of this path, at most one more than a file may have, or none
-- where no file has this path or memory is refused; the files stay as they were
abbrev pub Fetches : MemorySource → List ℕ → Entry → MemorySource → Type 0
Fetches before path (bytes handed) after =
    (option_map (take (largest_file + 1)) (bytes_at (files_of before) path) ≡ Some handed)
    × (files_of after ≡ files_of before)
Fetches before path unreadable after = (bytes_at (files_of before) path ≡ None) × (files_of after ≡ files_of before)
Fetches before path no_memory after = files_of after ≡ files_of before
