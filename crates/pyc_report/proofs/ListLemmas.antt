-- Tests of what is seen of the elements of a list.
use Rattle.std.proofs.Common.{◌≡◌, ◌||◌, Bool, true, false, cond, List, [], ◌∷◌, map, filter, refl, ap}
use Rattle.std.specs.List.{list_any}

-- a test of what is seen of the elements
pub list_any-map : {X Y : Type 0} (view : X → Y) (test : Y → Bool) (xs : List X) → list_any (λ x. test (view x)) xs ≡ list_any test (map view xs)
list_any-map view test [] = refl
list_any-map view test (x ∷ xs) = ap (λ b. test (view x) || b) (list_any-map view test xs)

kept_first : {X Y : Type 0} (view : X → Y) (x : X) (xs : List X) (ys : List Y) (b : Bool) → map view xs ≡ ys → map view (cond b (x ∷ xs) xs) ≡ cond b (view x ∷ ys) ys
kept_first view x xs ys true same = ap (λ zs. view x ∷ zs) same
kept_first view x xs ys false same = same

-- leaving elements out by what is seen of them
pub map-filter : {X Y : Type 0} (view : X → Y) (test : Y → Bool) (xs : List X) → map view (filter (λ x. test (view x)) xs) ≡ filter test (map view xs)
map-filter view test [] = refl
map-filter view test (x ∷ xs) = kept_first view x (filter (λ x. test (view x)) xs) (filter test (map view xs)) (test (view x)) (map-filter view test xs)
