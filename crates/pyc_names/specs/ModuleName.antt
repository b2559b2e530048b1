-- The module that a path names (Python reference 3.13, "Packages"; typing specification, "Stub files").
use Rattle.std.specs.Prelude.{ℕ, Bool, ◌-◌, ◌==◌, if◌then◌else◌, nat_eq, bytes_eq, List, [], ◌∷◌, length, take, map}
use Rattle.std.specs.Prelude.{codes}
use Rattle.std.specs.Cmp.Lexicographic.{pointwise}
use Rattle.std.specs.List.{slice_split, ends_with}
use Rattle.pyc_ast.specs.Names.{nfkc_text}

-- what separates the parts of a path
abbrev pub is_slash : ℕ → Bool
is_slash b = b == 47

-- a file's name without `.py`
abbrev pub stem : List ℕ → List ℕ
stem name = if ends_with nat_eq name (codes ".py") then take (length name - 3) name else name

-- what a file's name adds to the names of its folders: `__init__.py` adds nothing, since it names its folder
abbrev pub file_part : List ℕ → List (List ℕ)
file_part name = if bytes_eq name (codes "__init__.py") then [] else stem name ∷ []

-- the parts of a path as those of a module: the names of the folders, then that of the file
abbrev pub spelled_parts : List (List ℕ) → List (List ℕ)
spelled_parts [] = []
spelled_parts (name ∷ []) = file_part name
spelled_parts (folder ∷ next ∷ names) = folder ∷ spelled_parts (next ∷ names)

-- whether a path is that of a stub
abbrev pub is_stub_path : List ℕ → Bool
is_stub_path path = ends_with nat_eq path (codes ".pyi")

-- the path that a stub stands beside, which is its own without the last `i`; any other path itself
abbrev pub beside : List ℕ → List ℕ
beside path = if is_stub_path path then take (length path - 1) path else path

-- the module that a path names, as the list of its parts; each is a name, so it stands in Normalization Form KC. A stub
-- names the module of the path that it stands beside
unfoldable pub module_of : List ℕ → List (List ℕ)
module_of path = map nfkc_text (spelled_parts (slice_split is_slash (beside path)))

-- whether two modules have the same parts
abbrev pub same_module : List (List ℕ) → List (List ℕ) → Bool
same_module = pointwise bytes_eq
