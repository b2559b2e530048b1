-- Sorting by a comparison.
use Rattle.std.specs.Prelude.{List, [], ◌∷◌, if◌then◌else◌}
use Rattle.std.specs.declared.cmp.Ordering.{Ordering}
use Rattle.std.specs.Ordering.{is_gt}

-- the list with x put before the first element that is not less than it
abbrev pub inserted : {X : Type 0} → (X → X → Ordering) → X → List X → List X
inserted cmp x [] = x ∷ []
inserted cmp x (y ∷ ys) = if is_gt (cmp x y) then y ∷ inserted cmp x ys else x ∷ y ∷ ys

-- the elements in ascending order
abbrev pub sorted : {X : Type 0} → (X → X → Ordering) → List X → List X
sorted cmp [] = []
sorted cmp (x ∷ xs) = inserted cmp x (sorted cmp xs)
