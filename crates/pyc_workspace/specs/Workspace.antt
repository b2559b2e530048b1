-- The files of a session.
use Rattle.std.specs.Prelude.{◌≡◌, ℕ, ◌<◌, ◌≤◌, Bool, not, ◌&&◌, bytes_eq, List, []}
use Rattle.std.specs.Prelude.{◌∷◌, length, filter, slice_index_or}
use Rattle.std.specs.declared.cmp.Ordering.{Ordering}
use Rattle.std.specs.declared.cmp.Ordering.TheVariants.{Less, Greater}
use Rattle.std.specs.Cmp.Lexicographic.{slice_cmp}
use Rattle.std.specs.List.{list_any}
use Rattle.std.specs.List.Sorted.{IsStrictlySortedBy}
use Rattle.std.specs.Ordering.{nat_cmp, match_ordering}
use Rattle.pyc_body.specs.FileUnits.{UnitId}
use Rattle.pyc_names.specs.ModuleName.{module_of, same_module, is_stub_path, beside}

-- one file: its path and its bytes
pub record File : Type 0 where
  pub path : List ℕ
  pub bytes : List ℕ

-- how two paths compare, byte by byte
abbrev pub path_cmp : List ℕ → List ℕ → Ordering
path_cmp = slice_cmp nat_cmp

-- the files are in order: the path of each is below those of all after it, so no path comes twice
abbrev pub IsInOrder : List File → Type 0
IsInOrder = IsStrictlySortedBy (λ file later. path_cmp file.path later.path)

-- whether there is a file of this path
abbrev pub has_file : List File → List ℕ → Bool
has_file files path = list_any (λ file. bytes_eq file.path path) files

-- whether a file is the stub that stands beside a path
abbrev pub is_stub_of : List ℕ → File → Bool
is_stub_of path file = is_stub_path file.path && bytes_eq path (beside file.path)

-- the files that are taken: all but those beside which a stub stands
abbrev pub taken : List File → List File
taken files = filter (λ file. not (list_any (is_stub_of file.path) files)) files

-- whether a file names the module of a path, though it is not the stub beside it and does not stand beside that stub
abbrev pub is_other_of : List ℕ → File → Bool
is_other_of path file =
    same_module (module_of file.path) (module_of path) && not (bytes_eq (beside file.path) (beside path))

abbrev pub is_module_taken : List File → List ℕ → Bool
is_module_taken files path = list_any (is_other_of path) files

-- the files with this one: in place of the file of its path, or else after those whose paths are below its own
abbrev pub with_file : List File → File → List File
with_file [] file = file ∷ []
with_file (first ∷ files) file =
    match_ordering (path_cmp first.path file.path) (first ∷ with_file files file) (file ∷ files)
    (file ∷ first ∷ files)

-- the files without the one of this path
abbrev pub without_file : List File → List ℕ → List File
without_file files path = filter (λ file. not (bytes_eq file.path path)) files

-- the file at this place has the path, and those before it have lower ones
pub record IsPlaceOf (files : List File) (path : List ℕ) (place : ℕ) : Type 0 where
  pub in_range : place < length files
  pub lower_before : (i : ℕ) (d : File) → i < place → path_cmp (slice_index_or files i d).path path ≡ Less
  pub has_path : (d : File) → (slice_index_or files place d).path ≡ path

-- a file of the path would go to this place: lower paths before it, higher ones from it on
pub record IsGapFor (files : List File) (path : List ℕ) (place : ℕ) : Type 0 where
  pub in_range : place ≤ length files
  pub lower_before : (i : ℕ) (d : File) → i < place → path_cmp (slice_index_or files i d).path path ≡ Less
  pub higher_after : (i : ℕ) (d : File) → place ≤ i → i < length files → path_cmp (slice_index_or files i d).path path
      ≡ Greater

-- a part of a file that is checked by itself: the path of the file, and which of its units it is, counted from 0
abbrev pub Unit : Type 0
Unit = UnitId
