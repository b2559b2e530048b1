-- Rows of classes whose heads are taken off.
use Rattle.std.specs.Prelude.{ℕ, ◌==◌, if◌then◌else◌, List, [], ◌∷◌, map}
use Rattle.std.specs.Borrow.{Bor}

-- the rows that slices are
abbrev pub rows_in : List (Bor (List ℕ)) → List (List ℕ)
rows_in rows = map (λ row. row.now) rows

-- a row without a class as its head
abbrev pub past : ℕ → List ℕ → List ℕ
past c [] = []
past c (head ∷ tail) = if head == c then tail else head ∷ tail
