-- Which modules are there (Python reference 3.13, "Packages" and "Namespace packages").
use Rattle.std.specs.Prelude.{ℕ, Bool, true, false, ◌||◌, List, [], ◌∷◌, bytes_eq, is_some}
use Rattle.std.specs.List.{list_any, starts_with}
use Rattle.pyc_names.specs.FixedModules.{fixed_module}

-- whether a module is the root, whose name has no parts
abbrev pub is_root : List (List ℕ) → Bool
is_root [] = true
is_root (part ∷ parts) = false

-- whether a file's module is another or lies under it: the parts of its name begin with those of the other's
abbrev pub is_within : List (List ℕ) → List (List ℕ) → Bool
is_within outer file = starts_with bytes_eq file outer

-- whether a module is there, where files name these: it is the root or a fixed one, or a file names it or lies under it
abbrev pub is_there : List (List (List ℕ)) → List (List ℕ) → Bool
is_there files m = (is_root m || is_some (fixed_module m)) || list_any (is_within m) files
