-- How often each class stands in the tails of rows.
use Rattle.std.specs.Prelude.{◌≡◌, ℕ, ◌==◌, if◌then◌else◌, nat_le, Bool, List, [], ◌∷◌, length, slice_index}
use Rattle.std.specs.Prelude.{Option, None, Some}
use Rattle.std.specs.Borrow.{Bor}
use Rattle.std.specs.List.{sum_by}

-- whether a row has few classes: each class of such rows is looked for in each tail
abbrev pub is_short : List ℕ → Bool
is_short row = nat_le (length row) 16

-- a row behind its head
abbrev pub tail_of : List ℕ → List ℕ
tail_of [] = []
tail_of (head ∷ tail) = tail

-- how often a class stands in a row
abbrev pub occurrences : List ℕ → ℕ → ℕ
occurrences row c = sum_by (λ other. if other == c then 1 else 0) row

-- each class has the count of how often it stands in the tails of rows; what has no count stands in none
abbrev pub AreTailCounts : List ℕ → List (Bor (List ℕ)) → Type 0
AreTailCounts counts rows = (c : ℕ) → slice_index counts c ≡ sum_by (λ row. occurrences (tail_of row.now) c) rows

-- the head of a row, if its count is 0
abbrev pub free_by : List ℕ → List ℕ → Option ℕ
free_by counts [] = None
free_by counts (head ∷ tail) = if slice_index counts head == 0 then Some head else None
