-- The merge of C3 (Barrett and others, "A monotonic superclass linearization for Dylan"; "The Python 2.3 method
-- resolution order").
use Rattle.std.specs.Prelude.{ℕ, zero, suc, Bool, true, false, not, ◌==◌, if◌then◌else◌, List, [], ◌∷◌, length, map}
use Rattle.std.specs.Prelude.{◌+◌, filter, Option, None, Some, option_map}
use Rattle.std.specs.List.{list_any, list_all}
use Rattle.std.specs.Option.{option_or}

-- whether a class stands in a row
abbrev pub contains : List ℕ → ℕ → Bool
contains row c = list_any (λ other. other == c) row

-- a row without a class, wherever it stands there
abbrev pub without : ℕ → List ℕ → List ℕ
without c row = filter (λ other. not (other == c)) row

-- whether a class stands in the tail of a row, behind its head
abbrev pub stands_in_tail : ℕ → List ℕ → Bool
stands_in_tail c [] = false
stands_in_tail c (head ∷ tail) = contains tail c

-- whether a class stands in no tail of these rows
abbrev pub is_free : List (List ℕ) → ℕ → Bool
is_free rows c = not (list_any (stands_in_tail c) rows)

-- the head of a row, if it stands in no tail of these rows
abbrev pub free_head : List (List ℕ) → List ℕ → Option ℕ
free_head rows [] = None
free_head rows (head ∷ tail) = if is_free rows head then Some head else None

-- the first head of the second rows that stands in no tail of the first rows
abbrev pub first_free : List (List ℕ) → List (List ℕ) → Option ℕ
first_free all [] = None
first_free all (row ∷ rows) = option_or (free_head all row) (first_free all rows)

-- whether a row is empty
abbrev pub is_empty : List ℕ → Bool
is_empty [] = true
is_empty (head ∷ tail) = false

-- what follows where no head is free: the merge is done where all rows are empty, and fails else; where one is free,
-- it comes next, it is removed from every row, and the merge goes on
abbrev pub merge_from : (List (List ℕ) → Option (List ℕ)) → List (List ℕ) → Option ℕ → Option (List ℕ)
merge_from further rows None = if list_all is_empty rows then Some [] else None
merge_from further rows (Some c) = option_map (λ classes. c ∷ classes) (further (map (without c) rows))

-- the merge of rows where at most so many steps are made; none where it fails or needs more
abbrev pub merge_within : ℕ → List (List ℕ) → Option (List ℕ)
merge_within zero rows = None
merge_within (suc n) rows = merge_from (merge_within n) rows (first_free rows rows)

-- how many entries rows have
abbrev pub entry_count : List (List ℕ) → ℕ
entry_count [] = 0
entry_count (row ∷ rows) = length row + entry_count rows

-- the merge of rows: each step but the last removes an entry
unfoldable pub merge : List (List ℕ) → Option (List ℕ)
merge rows = merge_within (suc (entry_count rows)) rows
