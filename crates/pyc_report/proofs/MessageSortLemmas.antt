-- What a stable sort gives is `sorted`, also where what ties is not equal.
use Rattle.std.proofs.Common.{◌≡◌, Bool, true, false, cond, not, ◌&&◌, List, [], ◌∷◌, map, filter, length, arith, Ordering, Less, Equal, Greater, IsSorted, is_gt, is_lt, refl, sym, ◌∙◌, ap, subst}
use Rattle.std.specs.Ordering.{ordering_reverse}
use Rattle.std.specs.Cmp.{IsTotalOrder}
use Rattle.std.specs.List.Sorted.{IsStable, ties}
use Rattle.std.proofs.lemmas.Cmp.{alike_right, on_total, tied_back, tied_itself}
use Rattle.pyc_report.specs.Sort.{inserted, sorted}
use Rattle.pyc_report.proofs.SortLemmas.{IsAscending, IsAscending-from_sort, IsAscending-sorted, IsBelow}

-- the head and the rest of a list, else a given one
abbrev head_or : {X : Type 0} → X → List X → X
head_or d [] = d
head_or d (x ∷ xs) = x

abbrev rest_of : {X : Type 0} → List X → List X
rest_of [] = []
rest_of (x ∷ xs) = xs

no_list : {X : Type 0} (x : X) (xs : List X) → x ∷ xs ≡ [] → ⊥
no_list x xs same = by (ap length same)
  where
    by : length (x ∷ xs) ≡ 0 → ⊥
    by e = absurd (omega (arith, e))

map-same : {X : Type 0} (xs : List X) → map (λ x. x) xs ≡ xs
map-same [] = refl
map-same (x ∷ xs) = ap (λ l. x ∷ l) (map-same xs)

module _ {X : Type 0} (cmp : X → X → Ordering) (order : IsTotalOrder cmp) where
  -- those that tie with z
  abbrev tied : X → X → Bool
  tied z x = ties (λ a b. is_lt (cmp a b)) z x

  tied_where : (z x : X) → cmp z x ≡ Equal → tied z x ≡ true
  tied_where z x e = rw (e, tied_back order z x e) refl

  equal_where : (z x : X) → tied z x ≡ true → cmp z x ≡ Equal
  equal_where z x is = by (cmp z x) refl
    where
      by : (o : Ordering) → cmp z x ≡ o → cmp z x ≡ Equal
      by Less e = let wrong : false ≡ true = rw e at is in cc
      by Equal e = e
      by Greater e =
          let back : cmp x z ≡ Less = order.antisymm x z ∙ ap ordering_reverse e in
          let wrong : false ≡ true = rw (e, back) at is in cc

  -- an element goes past one that it is above, and so past none that ties with it
  passed : (z x y : X) (rest : List X) → is_gt (cmp x y) ≡ true → filter (tied z) (y ∷ x ∷ rest) ≡ filter (tied z) (x ∷ y ∷ rest)
  passed z x y rest above = by (tied z x) refl (tied z y) refl
    where
      l : List X
      l = filter (tied z) rest

      by : (b : Bool) → tied z x ≡ b → (c : Bool) → tied z y ≡ c
          → cond (tied z y) (y ∷ cond (tied z x) (x ∷ l) l) (cond (tied z x) (x ∷ l) l) ≡ cond (tied z x) (x ∷ cond (tied z y) (y ∷ l) l) (cond (tied z y) (y ∷ l) l)
      by true p true q =
          let even : cmp x y ≡ Equal = sym (order.congr z x y (equal_where z x p)) ∙ equal_where z y q in
          let wrong : false ≡ true = rw even at above in cc
      by true p false q = rw (p, q) refl
      by false p c q = rw p refl

  tied_inserted : (z x : X) (ys : List X) → filter (tied z) (inserted cmp x ys) ≡ filter (tied z) (x ∷ ys)
  tied_inserted z x [] = refl
  tied_inserted z x (y ∷ ys) = by (is_gt (cmp x y)) refl (tied_inserted z x ys)
    where
      by : (b : Bool) → is_gt (cmp x y) ≡ b → filter (tied z) (inserted cmp x ys) ≡ filter (tied z) (x ∷ ys)
          → filter (tied z) (cond b (y ∷ inserted cmp x ys) (x ∷ y ∷ ys)) ≡ filter (tied z) (x ∷ y ∷ ys)
      by true above more = ap (λ l. cond (tied z y) (y ∷ l) l) more ∙ passed z x y ys above
      by false above more = refl

  -- sorting leaves what ties in its order
  tied_sorted : (z : X) (xs : List X) → filter (tied z) (sorted cmp xs) ≡ filter (tied z) xs
  tied_sorted z [] = refl
  tied_sorted z (x ∷ xs) = tied_inserted z x (sorted cmp xs) ∙ ap (λ l. cond (tied z x) (x ∷ l) l) (tied_sorted z xs)

  -- what is less than x ties with nothing that x is below
  none_tied : (w x : X) (ys : List X) → cmp w x ≡ Less → IsBelow cmp x ys → filter (tied w) ys ≡ []
  none_tied w x [] less below = refl
  none_tied w x (y ∷ ys) less below = rw (untied, none_tied w x ys less below.1) refl
    where
      untied : tied w y ≡ false
      untied = by (cmp x y) refl
        where
          by : (o : Ordering) → cmp x y ≡ o → tied w y ≡ false
          by Less e = rw (order.trans w x y less e) refl
          by Equal e = let first : cmp w y ≡ Less = sym (alike_right order x y w e) ∙ less in rw first refl
          by Greater e = let above : is_gt (cmp x y) ≡ false = below.0 in let wrong : true ≡ false = rw e at above in cc

  -- two ascending lists of which the first begins with less than the second do not have the same ties
  apart : (x y : X) (xs ys : List X) → cmp x y ≡ Less → IsBelow cmp y ys → filter (tied x) (x ∷ xs) ≡ filter (tied x) (y ∷ ys) → ⊥
  apart x y xs ys less below same =
      let itself : tied x x ≡ true = tied_where x x (tied_itself order x) in
      let none : filter (tied x) (y ∷ ys) ≡ [] = rw (less, none_tied x y ys less below) refl in
      no_list x (filter (tied x) xs) (sym (ap (λ b. cond b (x ∷ filter (tied x) xs) (filter (tied x) xs)) itself) ∙ same ∙ none)

  -- two ascending lists with the same ties to each element are equal
  same_from_tied : (xs ys : List X) → IsAscending cmp xs → IsAscending cmp ys
      → ((z : X) → filter (tied z) xs ≡ filter (tied z) ys) → xs ≡ ys
  same_from_tied [] [] upx upy same = refl
  same_from_tied [] (y ∷ ys) upx upy same =
      let itself : tied y y ≡ true = tied_where y y (tied_itself order y) in
      absurd (no_list y (filter (tied y) ys) (sym (ap (λ b. cond b (y ∷ filter (tied y) ys) (filter (tied y) ys)) itself) ∙ sym (same y)))
  same_from_tied (x ∷ xs) [] upx upy same =
      let itself : tied x x ≡ true = tied_where x x (tied_itself order x) in
      absurd (no_list x (filter (tied x) xs) (sym (ap (λ b. cond b (x ∷ filter (tied x) xs) (filter (tied x) xs)) itself) ∙ same x))
  same_from_tied (x ∷ xs) (y ∷ ys) upx upy same = by (cmp x y) refl (same_from_tied xs ys upx.1 upy.1)
    where
      by : (o : Ordering) → cmp x y ≡ o → (((z : X) → filter (tied z) xs ≡ filter (tied z) ys) → xs ≡ ys) → x ∷ xs ≡ y ∷ ys
      by Less e more = absurd (apart x y xs ys e upy.0 (same x))
      by Equal e more =
          let first : x ∷ filter (tied x) xs ≡ y ∷ filter (tied x) ys =
          sym (ap (λ b. cond b (x ∷ filter (tied x) xs) (filter (tied x) xs)) (tied_where x x (tied_itself order x)))
          ∙ same x
          ∙ ap (λ b. cond b (y ∷ filter (tied x) ys) (filter (tied x) ys)) (tied_where x y e) in
          let one : x ≡ y = ap (head_or x) first in
          let rest : xs ≡ ys = more (λ z. left z (tied z x) refl one) in
          (λ i. one i ∷ rest i)
        where
          left : (z : X) (b : Bool) → tied z x ≡ b → x ≡ y → filter (tied z) xs ≡ filter (tied z) ys
          left z true p one =
              ap rest_of (
              sym (ap (λ c. cond c (x ∷ filter (tied z) xs) (filter (tied z) xs)) p)
              ∙ same z
              ∙ ap (λ c. cond c (y ∷ filter (tied z) ys) (filter (tied z) ys)) (ap (tied z) (sym one) ∙ p)
              )
          left z false p one =
              sym (ap (λ c. cond c (x ∷ filter (tied z) xs) (filter (tied z) xs)) p)
              ∙ same z
              ∙ ap (λ c. cond c (y ∷ filter (tied z) ys) (filter (tied z) ys)) (ap (tied z) (sym one) ∙ p)
      by Greater e more =
          let less : cmp y x ≡ Less = order.antisymm y x ∙ ap ordering_reverse e in
          absurd (apart y x ys xs less upx.0 (sym (same y)))

  -- what a stable sort gives
  sorted_from_stable : (xs ys : List X) → IsSorted cmp ys → IsStable cmp xs ys → ys ≡ sorted cmp xs
  sorted_from_stable xs ys up stable =
      same_from_tied ys (sorted cmp xs) (subst (IsAscending cmp) (map-same ys) (IsAscending-from_sort cmp order (λ x. x) ys up)) (IsAscending-sorted cmp order xs)
      (λ z. stable z ∙ sym (tied_sorted z xs))

module _ {X Y : Type 0} (cmp : X → X → Ordering) (view : Y → X) where
  inserted-map : (y : Y) (ys : List Y) → map view (inserted (λ a b. cmp (view a) (view b)) y ys) ≡ inserted cmp (view y) (map view ys)
  inserted-map y [] = refl
  inserted-map y (z ∷ ys) = by (is_gt (cmp (view y) (view z))) (inserted-map y ys)
    where
      by : (b : Bool) → map view (inserted (λ a b. cmp (view a) (view b)) y ys) ≡ inserted cmp (view y) (map view ys)
          → map view (cond b (z ∷ inserted (λ a b. cmp (view a) (view b)) y ys) (y ∷ z ∷ ys)) ≡ cond b (view z ∷ inserted cmp (view y) (map view ys)) (view y ∷ view z ∷ map view ys)
      by true more = ap (λ l. view z ∷ l) more
      by false more = refl

  sorted-map : (ys : List Y) → map view (sorted (λ a b. cmp (view a) (view b)) ys) ≡ sorted cmp (map view ys)
  sorted-map [] = refl
  sorted-map (y ∷ ys) = inserted-map y (sorted (λ a b. cmp (view a) (view b)) ys) ∙ ap (inserted cmp (view y)) (sorted-map ys)

  -- what a stable sort by what is seen of the elements gives
  pub seen_sorted : IsTotalOrder cmp → (xs ys : List Y) → IsSorted (λ a b. cmp (view a) (view b)) ys → IsStable (λ a b. cmp (view a) (view b)) xs ys
      → map view ys ≡ sorted cmp (map view xs)
  seen_sorted order xs ys up stable =
      ap (map view) (sorted_from_stable (λ a b. cmp (view a) (view b)) (on_total view order) xs ys up stable) ∙ sorted-map xs
