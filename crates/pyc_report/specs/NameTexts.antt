-- Names as messages show them.
use Rattle.std.specs.Prelude.{ℕ, List, [], ◌∷◌, ◌++◌, flat_map, codes}

-- a name after a dot
abbrev pub after_dot : List ℕ → List ℕ
after_dot name = codes "." ++ name

-- names with a dot between each two
abbrev pub joined_names : List (List ℕ) → List ℕ
joined_names [] = []
joined_names (name ∷ names) = name ++ flat_map after_dot names
