-- Which paths a file may have, reported on their bytes.
use Rattle.std.specs.Prelude.{ℕ, Bool, ◌==◌, ◌&&◌, not, nat_lt, nat_le, nat_eq, List, length, codes, bytes_eq}
use Rattle.std.specs.List.{slice_split, list_all, ends_with}
use Rattle.std.specs.Str.{is_utf8}
use Rattle.pyc_names.specs.ModuleName.{is_slash, beside}

-- no control character and no space
abbrev pub is_path_byte : ℕ → Bool
is_path_byte b = nat_lt 32 b && not (b == 127)

-- a part between slashes: not empty, `.` or `..`
abbrev pub is_path_part : List ℕ → Bool
is_path_part part = not (length part == 0) && not (bytes_eq part (codes ".")) && not (bytes_eq part (codes ".."))

-- the last part ends in `.py` or `.pyi`, with something before it
abbrev pub names_python_file : List ℕ → Bool
names_python_file path =
    ends_with nat_eq (beside path) (codes ".py") && not (ends_with nat_eq (beside path) (codes "/.py"))
    && not (bytes_eq (beside path) (codes ".py"))

-- the most bytes of a path
abbrev pub longest_path : ℕ
longest_path = 255

-- a path that a file may have; `__init__.py` or `__init__.pyi` at the top would name no module
unfoldable pub is_file_path : List ℕ → Bool
is_file_path path =
    nat_le (length path) longest_path && list_all is_path_byte path && list_all is_path_part (slice_split is_slash path)
    && names_python_file path && not (bytes_eq (beside path) (codes "__init__.py")) && is_utf8 path
