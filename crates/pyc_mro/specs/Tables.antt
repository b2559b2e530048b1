-- Classes as numbers, their positions in a table that lists the written bases of each (Python reference 3.13, "Class
-- definitions").
use Rattle.std.specs.Prelude.{ℕ, zero, suc, Bool, false, ◌==◌, ◌||◌, List, [], ◌∷◌, length, unwrap_or}
use Rattle.std.specs.List.{list_any, slice_get}
use Rattle.pyc_mro.specs.declared.table.Base.{Base}
use Rattle.pyc_mro.specs.declared.table.Base.TheVariants as base

-- the written bases of each class
abbrev pub Table : Type 0
Table = List (List Base)

-- the classes among bases
abbrev pub classes_among : List Base → List ℕ
classes_among [] = []
classes_among (base.Class c ∷ bases) = c ∷ classes_among bases
classes_among (base.Unknown ∷ bases) = classes_among bases

-- the bases of a class; what is no class of the table has none
abbrev pub bases_of : Table → ℕ → List Base
bases_of table c = unwrap_or (slice_get table c) []

-- the classes that are bases of a class
abbrev pub parents : Table → ℕ → List ℕ
parents table c = classes_among (bases_of table c)

-- whether going from a class to its bases, and from each to its own, reaches another in at most so many steps
abbrev pub reaches : Table → ℕ → ℕ → ℕ → Bool
reaches table zero from to = false
reaches table (suc n) from to = list_any (λ parent. parent == to || reaches table n parent to) (parents table from)

-- whether a class is its own ancestor: going to bases comes back to it in as many steps as there are classes
abbrev pub is_own_ancestor : Table → ℕ → Bool
is_own_ancestor table c = reaches table (length table) c c
