-- Marks on numbers.
use Rattle.std.specs.Prelude.{ℕ, Bool, false, ◌==◌, List, slice_index_or}
use Rattle.std.specs.List.{list_any}

-- whether a number is marked
abbrev pub is_marked : List Bool → ℕ → Bool
is_marked marks i = slice_index_or marks i false

-- whether a number is one of these
abbrev pub is_in : List ℕ → ℕ → Bool
is_in numbers i = list_any (λ j. j == i) numbers
