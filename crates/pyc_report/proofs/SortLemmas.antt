-- Two lists with the same elements that both ascend are equal, where ties are equal: so each sort gives `sorted`.
use Rattle.std.proofs.Common.{◌≡◌, ℕ, suc, ◌+◌, Bool, true, false, cond, List, [], ◌∷◌, map, sum_by, IsPermutation, IsSorted, Ordering, Less, Equal, Greater, is_gt, is_eq, is_lt, refl, sym, ◌∙◌, ap, arith, add-one}
use Rattle.std.specs.Ordering.{ordering_reverse}
use Rattle.std.specs.Cmp.{IsTotalOrder}
use Rattle.std.proofs.lemmas.Cmp.{upto, tied_itself, alike_right}
use Rattle.std.proofs.lemmas.List.Sums.{sum_by-cons}
use Rattle.std.proofs.lemmas.List.Sorted.{sum_by-IsPermutation, IsPermutation-map}
use Rattle.pyc_report.specs.Sort.{inserted, sorted}

-- no element is less than x
abbrev pub IsBelow : {X : Type 0} → (X → X → Ordering) → X → List X → Type 0
IsBelow cmp x [] = Unit {0}
IsBelow cmp x (y ∷ ys) = (is_gt (cmp x y) ≡ false) × IsBelow cmp x ys

-- each element is below those after it
abbrev pub IsAscending : {X : Type 0} → (X → X → Ordering) → List X → Type 0
IsAscending cmp [] = Unit {0}
IsAscending cmp (x ∷ xs) = IsBelow cmp x xs × IsAscending cmp xs

-- one where the two tie
abbrev pub tie : {X : Type 0} → (X → X → Ordering) → X → X → ℕ
tie cmp x y = cond (is_eq (cmp x y)) 1 0

module _ {X : Type 0} (cmp : X → X → Ordering) where
  -- an insertion adds one element
  pub sum_by-inserted : (f : X → ℕ) (x : X) (ys : List X) → sum_by f (inserted cmp x ys) ≡ f x + sum_by f ys
  sum_by-inserted f x [] = sum_by-cons f x []
  sum_by-inserted f x (y ∷ ys) = by (is_gt (cmp x y)) (sum_by-inserted f x ys)
    where
      by : (b : Bool) → sum_by f (inserted cmp x ys) ≡ f x + sum_by f ys
          → sum_by f (cond b (y ∷ inserted cmp x ys) (x ∷ y ∷ ys)) ≡ f x + sum_by f (y ∷ ys)
      by true more = omega (arith, more, sum_by-cons f y (inserted cmp x ys), sum_by-cons f y ys)
      by false more = sum_by-cons f x (y ∷ ys)

  -- sorting keeps the elements
  pub sum_by-sorted : (f : X → ℕ) (xs : List X) → sum_by f (sorted cmp xs) ≡ sum_by f xs
  sum_by-sorted f [] = refl
  sum_by-sorted f (x ∷ xs) = omega (arith, sum_by-inserted f x (sorted cmp xs), sum_by-sorted f xs, sum_by-cons f x xs)

module _ {X : Type 0} (cmp : X → X → Ordering) (order : IsTotalOrder cmp) where
  -- where x is above y, y is not above x
  pub not_above : (x y : X) → is_gt (cmp x y) ≡ true → is_gt (cmp y x) ≡ false
  not_above x y above = rw (order.antisymm y x) (by (cmp x y) above)
    where
      by : (o : Ordering) → is_gt o ≡ true → is_gt (ordering_reverse o) ≡ false
      by Less e = cc
      by Equal e = cc
      by Greater e = refl

  -- where x is not less than y, y is not above x
  not_less : (x y : X) → is_lt (cmp x y) ≡ false → is_gt (cmp y x) ≡ false
  not_less x y less = rw (order.antisymm y x) (by (cmp x y) less)
    where
      by : (o : Ordering) → is_lt o ≡ false → is_gt (ordering_reverse o) ≡ false
      by Less e = cc
      by Equal e = refl
      by Greater e = refl

  -- what is below x is below all that x is below
  pub IsBelow-trans : (w x : X) (ys : List X) → is_gt (cmp w x) ≡ false → IsBelow cmp x ys → IsBelow cmp w ys
  IsBelow-trans w x [] wx below = tt
  IsBelow-trans w x (y ∷ ys) wx below = (upto order w x y wx below.0, IsBelow-trans w x ys wx below.1)

  -- an insertion of what w is below keeps w below all
  pub IsBelow-inserted : (w x : X) (ys : List X) → is_gt (cmp w x) ≡ false → IsBelow cmp w ys → IsBelow cmp w (inserted cmp x ys)
  IsBelow-inserted w x [] wx below = (wx, tt)
  IsBelow-inserted w x (y ∷ ys) wx below = by (is_gt (cmp x y)) (IsBelow-inserted w x ys wx below.1)
    where
      by : (b : Bool) → IsBelow cmp w (inserted cmp x ys) → IsBelow cmp w (cond b (y ∷ inserted cmp x ys) (x ∷ y ∷ ys))
      by true more = (below.0, more)
      by false more = (wx, below)

  -- an insertion keeps the order
  pub IsAscending-inserted : (x : X) (ys : List X) → IsAscending cmp ys → IsAscending cmp (inserted cmp x ys)
  IsAscending-inserted x [] up = (tt, tt)
  IsAscending-inserted x (y ∷ ys) up = by (is_gt (cmp x y)) refl (IsAscending-inserted x ys up.1)
    where
      by : (b : Bool) → is_gt (cmp x y) ≡ b → IsAscending cmp (inserted cmp x ys) → IsAscending cmp (cond b (y ∷ inserted cmp x ys) (x ∷ y ∷ ys))
      by true above more = (IsBelow-inserted y x ys (not_above x y above) up.0, more)
      by false above more = ((above, IsBelow-trans x y ys above up.0), up)

  -- sorting makes the order
  pub IsAscending-sorted : (xs : List X) → IsAscending cmp (sorted cmp xs)
  IsAscending-sorted [] = tt
  IsAscending-sorted (x ∷ xs) = IsAscending-inserted x (sorted cmp xs) (IsAscending-sorted xs)

  -- what is less than x ties with nothing that x is below
  pub no_ties : (w x : X) (ys : List X) → cmp w x ≡ Less → IsBelow cmp x ys → sum_by (tie cmp w) ys ≡ 0
  no_ties w x [] less below = refl
  no_ties w x (y ∷ ys) less below = sum_by-cons (tie cmp w) y ys ∙ rw (no_ties w x ys less below.1, untied) refl
    where
      untied : tie cmp w y ≡ 0
      untied = by (cmp x y) refl
        where
          by : (o : Ordering) → cmp x y ≡ o → tie cmp w y ≡ 0
          by Less e = rw (order.trans w x y less e) refl
          by Equal e = rw (← alike_right order x y w e, less) refl
          by Greater e = let above : is_gt (cmp x y) ≡ false = below.0 in let wrong : true ≡ false = rw e at above in cc

  -- each element ties with itself
  tie_itself : (x : X) → tie cmp x x ≡ 1
  tie_itself x = rw (tied_itself order x) refl

  -- the ties to what is less than all of a list tell a list that begins with it from that one
  apart : (x y : X) (xs ys : List X) → cmp x y ≡ Less → IsBelow cmp y ys → sum_by (tie cmp x) (x ∷ xs) ≡ sum_by (tie cmp x) (y ∷ ys) → ⊥
  apart x y xs ys less below same =
      let first : tie cmp x y ≡ 0 = rw less refl in
      omega (arith, same, sum_by-cons (tie cmp x) x xs, sum_by-cons (tie cmp x) y ys, tie_itself x, first, no_ties x y ys less below)

  -- two ascending lists with as many ties to each element are equal
  pub same_from_ties : ((x y : X) → cmp x y ≡ Equal → x ≡ y) → (xs ys : List X) → IsAscending cmp xs → IsAscending cmp ys
      → ((z : X) → sum_by (tie cmp z) xs ≡ sum_by (tie cmp z) ys) → xs ≡ ys
  same_from_ties equal [] [] upx upy same = refl
  same_from_ties equal [] (y ∷ ys) upx upy same =
      absurd (omega (arith, same y, sum_by-cons (tie cmp y) y ys, tie_itself y))
  same_from_ties equal (x ∷ xs) [] upx upy same =
      absurd (omega (arith, same x, sum_by-cons (tie cmp x) x xs, tie_itself x))
  same_from_ties equal (x ∷ xs) (y ∷ ys) upx upy same = by (cmp x y) refl (same_from_ties equal xs ys upx.1 upy.1)
    where
      by : (o : Ordering) → cmp x y ≡ o → (((z : X) → sum_by (tie cmp z) xs ≡ sum_by (tie cmp z) ys) → xs ≡ ys) → x ∷ xs ≡ y ∷ ys
      by Less e more = absurd (apart x y xs ys e upy.0 (same x))
      by Equal e more =
          let one : x ≡ y = equal x y e in
          let rest : xs ≡ ys = more (λ z. let tied : tie cmp z x ≡ tie cmp z y = ap (tie cmp z) one in
          omega (arith, tied, same z, sum_by-cons (tie cmp z) x xs, sum_by-cons (tie cmp z) y ys)) in
          cc
      by Greater e more =
          let less : cmp y x ≡ Less = order.antisymm y x ∙ ap ordering_reverse e in
          absurd (apart y x ys xs less upx.0 (sym (same y)))

  module _ {Y : Type 0} (view : Y → X) where
    -- neighbours in order are all that is asked
    pub IsAscending-from_sort : (ys : List Y) → IsSorted (λ a b. cmp (view a) (view b)) ys → IsAscending cmp (map view ys)
    IsAscending-from_sort [] up = tt
    IsAscending-from_sort (y ∷ []) up = (tt, tt)
    IsAscending-from_sort (y ∷ z ∷ zs) up =
        let rest : IsAscending cmp (map view (z ∷ zs)) = IsAscending-from_sort (z ∷ zs) (λ k d low high.
        rw add-one (rw add-one at (up (suc k) d (omega arith) (omega arith)))) in
        let first : is_gt (cmp (view y) (view z)) ≡ false = not_less (view z) (view y) (up 0 y (omega arith) (omega arith)) in
        ((first, IsBelow-trans (view y) (view z) (map view zs) first rest.0), rest)

    -- what a sort by the comparison of what is seen gives
    pub sorted_from_sort : ((a b : X) → cmp a b ≡ Equal → a ≡ b) → (xs ys : List Y) → IsPermutation xs ys
        → IsSorted (λ a b. cmp (view a) (view b)) ys → map view ys ≡ sorted cmp (map view xs)
    sorted_from_sort equal xs ys moved up =
        same_from_ties equal (map view ys) (sorted cmp (map view xs)) (IsAscending-from_sort ys up) (IsAscending-sorted (map view xs))
        (λ z. sum_by-IsPermutation (tie cmp z) (map view xs) (map view ys) (IsPermutation-map view xs ys moved)
        ∙ sym (sum_by-sorted cmp (tie cmp z) (map view xs)))
