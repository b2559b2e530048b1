-- How many files name each module.
use Rattle.std.specs.Prelude.{◌≡◌, ℕ, List, count_by, unwrap_or}
use Rattle.indexmap.specs.IndexMap.{IndexMap, get}
use Rattle.pyc_names.specs.ModuleName.{module_of, same_module}
use Rattle.pyc_workspace.specs.Workspace.{File, IsInOrder}

-- how many files name this module
abbrev pub name_count : List File → List (List ℕ) → ℕ
name_count files module_name = count_by (λ file. same_module (module_of file.path) module_name) files

-- the count that each module has in a map; one that has none counts as 0
abbrev pub counts_in : {S : Type 0} → IndexMap (List (List ℕ)) ℕ S → List (List ℕ) → ℕ
counts_in counts module_name = unwrap_or (get same_module counts module_name) 0

-- the files are in order, and each module has the count of the files that name it
pub record IsWhole (files : List File) (count : List (List ℕ) → ℕ) : Type 0 where
  pub ordered : IsInOrder files
  pub counted : (module_name : List (List ℕ)) → count module_name ≡ name_count files module_name
