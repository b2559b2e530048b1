-- Places among narrowings, and their types.
use Rattle.std.proofs.Common.{◌≡◌, ℕ, zero, suc, ◌+◌, ◌-◌, ◌<◌, ◌≤◌, Bool, true, false, cond}
use Rattle.std.proofs.Common.{List, [], ◌∷◌, ◌++◌, map, drop, length, get_or, slice_get, Option, None, Some, option_map}
use Rattle.std.proofs.Common.{refl, sym, ap, ◌∙◌, arith, append_assoc, length-append, drop-cons}
use Rattle.std.specs.declared.alloc.Global.{Global}
use Rattle.std.specs.declared.rc.Rc.{Rc}
use Rattle.std.specs.List.{find, position_from}
use Rattle.std.proofs.lemmas.List.{length-map}
use Rattle.pyc_type_forms.specs.TypeView.{ty_of}
use Rattle.pyc_places.specs.declared.narrowings.Narrowing.{Narrowing as NarrowingOf}
use Rattle.pyc_places.specs.Lookup.{first_place, is_at}
use Rattle.pyc_places.specs.Places.{Place, same_place}
use Rattle.pyc_places.specs.States.{Narrowing, type_of}
use Rattle.pyc_places.specs.NarrowingView.{narrowing_of}

-- ---- the first of a list that passes

-- the element at an index, or none where there is no index
abbrev pub chosen : {X : Type 0} → Option ℕ → List X → Option X
chosen None all = None
chosen (Some i) all = slice_get all i

at_length : {X : Type 0} (pre xs : List X) (x : X) → slice_get (pre ++ x ∷ xs) (length pre) ≡ Some x
at_length [] xs x = refl
at_length (y ∷ pre) xs x = at_length pre xs x

found_here : {X : Type 0} (t : X → Bool) (pre xs : List X) (x : X) (b : Bool)
    → find t xs ≡ chosen (position_from t (length pre + 1) xs) (pre ++ x ∷ xs)
    → cond b (Some x) (find t xs) ≡ chosen (cond b (Some (length pre)) (position_from t (length pre + 1) xs)) (pre ++ x ∷ xs)
found_here t pre xs x true next = sym (at_length pre xs x)
found_here t pre xs x false next = next

-- the first that passes is at the first place that passes
pub found_at : {X : Type 0} (t : X → Bool) (pre xs : List X)
    → find t xs ≡ chosen (position_from t (length pre) xs) (pre ++ xs)
found_at t pre [] = refl
found_at t pre (x ∷ xs) =
    let longer : length (pre ++ x ∷ []) ≡ length pre + 1 = length-append pre (x ∷ []) in
    found_here t pre xs x (t x)
    (found_at t (pre ++ x ∷ []) xs ∙ ap (λ n. chosen (position_from t n xs) ((pre ++ x ∷ []) ++ xs)) longer
    ∙ ap (chosen (position_from t (length pre + 1) xs)) (append_assoc pre (x ∷ []) xs))

within_here : {X : Type 0} (t : X → Bool) (n i : ℕ) (xs : List X) (b : Bool)
    → (position_from t (n + 1) xs ≡ Some i → i < (n + 1) + length xs)
    → cond b (Some n) (position_from t (n + 1) xs) ≡ Some i → i < n + suc (length xs)
within_here t n i xs true next h = let e : n ≡ i = cc in omega arith
within_here t n i xs false next h = let below : i < (n + 1) + length xs = next h in omega arith

-- a place is within
pub place_within : {X : Type 0} (t : X → Bool) (n i : ℕ) (xs : List X)
    → position_from t n xs ≡ Some i → i < n + length xs
place_within t n i [] h = cc
place_within t n i (x ∷ xs) h = within_here t n i xs (t x) (place_within t (n + 1) i xs) h

-- ---- narrowings

-- the plain narrowing of one is the plain one at its place
narrowing_at : (narrowings : List (Rc NarrowingOf Global)) (i : ℕ) (n : Rc NarrowingOf Global) → i < length narrowings → n ≡ get_or narrowings i n
    → Some (narrowing_of n.value) ≡ slice_get (map (λ n. narrowing_of n.value) narrowings) i
narrowing_at [] i n within is = absurd (omega arith)
narrowing_at (x ∷ narrowings) zero n within is = ap (λ (x : Rc NarrowingOf Global). Some (narrowing_of x.value)) is
narrowing_at (x ∷ narrowings) (suc i) n within is =
    let below : i < length narrowings = omega arith in narrowing_at narrowings i n below is

module _ (narrowings : List (Rc NarrowingOf Global)) (p : Place) where
  -- the first place is within the narrowings
  pub placed_within : (i : ℕ) → Some i ≡ first_place (map (λ n. narrowing_of n.value) narrowings) p → i < length narrowings
  placed_within i placed =
      let below : i < 0 + length (map (λ (n : Rc NarrowingOf Global). narrowing_of n.value) narrowings) =
      place_within (λ (n : Narrowing). same_place n.place p) 0 i (map (λ n. narrowing_of n.value) narrowings) (sym placed) in
      omega (arith, below, length-map narrowings (λ n. narrowing_of n.value))

  -- a place that stands nowhere has no type
  pub type_never : None ≡ first_place (map (λ n. narrowing_of n.value) narrowings) p → None ≡ type_of (map (λ n. narrowing_of n.value) narrowings) p
  type_never placed =
      ap (λ q. option_map (λ (n : Narrowing). n.ty) (chosen q (map (λ n. narrowing_of n.value) narrowings))) placed
      ∙ sym (ap (option_map (λ (n : Narrowing). n.ty)) (found_at (λ (n : Narrowing). same_place n.place p) [] (map (λ n. narrowing_of n.value) narrowings)))

  -- the type of a place is that of the narrowing where it stands first
  pub type_placed : (i : ℕ) (n : Rc NarrowingOf Global) → n ≡ get_or narrowings i n
      → Some i ≡ first_place (map (λ n. narrowing_of n.value) narrowings) p → Some (ty_of n.value.ty) ≡ type_of (map (λ n. narrowing_of n.value) narrowings) p
  type_placed i n is placed =
      ap (option_map (λ (n : Narrowing). n.ty))
      (narrowing_at narrowings i n (placed_within i placed) is ∙ ap (λ q. chosen q (map (λ n. narrowing_of n.value) narrowings)) placed
      ∙ sym (found_at (λ (n : Narrowing). same_place n.place p) [] (map (λ n. narrowing_of n.value) narrowings)))

-- ---- at an index

-- the place at an index, among those of the code
pub stands_here : (narrowings : List (Rc NarrowingOf Global)) (p : Place) (i : ℕ) (n : Rc NarrowingOf Global) → i < length narrowings → n ≡ get_or narrowings i n
    → same_place n.value.place p ≡ is_at (map (λ n. narrowing_of n.value) narrowings) i p
stands_here [] p i n within is = absurd (omega arith)
stands_here (x ∷ narrowings) p zero n within is = ap (λ (x : Rc NarrowingOf Global). same_place x.value.place p) is
stands_here (x ∷ narrowings) p (suc i) n within is =
    let below : i < length narrowings = omega arith in stands_here narrowings p i n below is

-- no place stands behind the last
pub stands_beyond : (narrowings : List (Rc NarrowingOf Global)) (p : Place) (i : ℕ) → length narrowings ≤ i
    → false ≡ is_at (map (λ n. narrowing_of n.value) narrowings) i p
stands_beyond [] p i beyond = refl
stands_beyond (x ∷ narrowings) p zero beyond = absurd (omega arith)
stands_beyond (x ∷ narrowings) p (suc i) beyond =
    let below : length narrowings ≤ i = omega arith in stands_beyond narrowings p i below

-- the first place from an index on is there, or behind it
pub first_from : (narrowings : List (Rc NarrowingOf Global)) (p : Place) (i : ℕ) (n : Rc NarrowingOf Global) → i < length narrowings → n ≡ get_or narrowings i n
    → position_from (λ (n : Narrowing). same_place n.place p) i (map (λ n. narrowing_of n.value) (drop i narrowings))
    ≡ cond (same_place n.value.place p) (Some i) (position_from (λ (n : Narrowing). same_place n.place p) (i + 1) (map (λ n. narrowing_of n.value) (drop (i + 1) narrowings)))
first_from narrowings p i n within is =
    let next : suc i ≡ i + 1 = omega arith in
    let first : drop i narrowings ≡ n ∷ drop (i + 1) narrowings =
    drop-cons narrowings i n within ∙ ap (λ x. x ∷ drop (suc i) narrowings) (sym is) ∙ ap (λ k. n ∷ drop k narrowings) next in
    ap (λ l. position_from (λ (n : Narrowing). same_place n.place p) i (map (λ n. narrowing_of n.value) l)) first
