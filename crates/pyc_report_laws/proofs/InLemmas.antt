-- What stands in lists.
use Rattle.std.proofs.Common.{◌≡◌, ℕ, zero, suc, ◌<◌, ◌⊎◌, Bool, true, false, not, cond, List, [], ◌∷◌, ◌++◌, map, filter, flat_map, length, Ordering, is_gt, inl, inr, refl, sym, ap, subst, ◌∙◌, arith, bytes_eq}
use Rattle.std.specs.List.{Contains, list_any}
use Rattle.std.proofs.lemmas.Bool.{or_cases, or_left, or_right, not-true, not_from_false, false≢true}
use Rattle.std.proofs.lemmas.Cmp.{nat_list_eq_equiv}
use Rattle.std.proofs.lemmas.Slice.Eq.{bytes_eq-Decides}
use Rattle.pyc_report.specs.Report.{without_repeats}
use Rattle.pyc_report.specs.Sort.{inserted, sorted}
use Rattle.pyc_report_laws.specs.Reports.{HasNoRepeats}

-- an element stands in a list
pub data In {X : Type 0} (x : X) : List X → Type 0 where
  first : {y : X} {xs : List X} → y ≡ x → In x (y ∷ xs)
  after : {y : X} {xs : List X} → In x xs → In x (y ∷ xs)

module _ {X : Type 0} (x : X) where
  pub in-none : In x [] → ⊥
  in-none s = elim s [ ]

  pub in-cases : (y : X) (xs : List X) → In x (y ∷ xs) → (y ≡ x) ⊎ In x xs
  in-cases y xs (first is) = inl is
  in-cases y xs (after s) = inr s

  pub in-contains : (xs : List X) → Contains xs x → In x xs
  in-contains [] (k, below, is) = absurd (omega (arith, below))
  in-contains (y ∷ xs) (zero, below, is) = first is
  in-contains (y ∷ xs) (suc k, below, is) = after (in-contains xs (k, omega (arith, below), is))

  pub contains-in : (xs : List X) → In x xs → Contains xs x
  contains-in [] s = elim s [ ]
  contains-in (y ∷ xs) (first is) = (0, omega arith, is)
  contains-in (y ∷ xs) (after s) =
      let at = contains-in xs s in
      let below : at.0 < length xs = at.1 in
      (suc at.0, omega (arith, below), at.2)

  pub in-before : (xs ys : List X) → In x xs → In x (xs ++ ys)
  in-before [] ys s = elim s [ ]
  in-before (y ∷ xs) ys (first is) = first is
  in-before (y ∷ xs) ys (after s) = after (in-before xs ys s)

  pub in-behind : (xs ys : List X) → In x ys → In x (xs ++ ys)
  in-behind [] ys s = s
  in-behind (y ∷ xs) ys s = after (in-behind xs ys s)

  pub in-append : (xs ys : List X) → In x (xs ++ ys) → In x xs ⊎ In x ys
  in-append [] ys s = inr s
  in-append (y ∷ xs) ys (first is) = inl (first is)
  in-append (y ∷ xs) ys (after s) = elim (in-append xs ys s) [ inl before ↦ inl (after before) | inr behind ↦ inr behind ]

  -- ---- filters

  module _ (p : X → Bool) where
    pub in-filter : (xs : List X) → In x xs → p x ≡ true → In x (filter p xs)
    in-filter [] s passes = elim s [ ]
    in-filter (y ∷ xs) (first is) passes =
        subst (λ b. In x (cond b (y ∷ filter p xs) (filter p xs))) (sym (ap p is ∙ passes)) (first is)
    in-filter (y ∷ xs) (after s) passes = elim (p y) as (λ b. In x (cond b (y ∷ filter p xs) (filter p xs))) [
      | true ↦ after (in-filter xs s passes)
      | false ↦ in-filter xs s passes
    ]

    pub from-filter : (xs : List X) → In x (filter p xs) → In x xs × (p x ≡ true)
    from-filter [] s = elim s [ ]
    from-filter (y ∷ xs) s =
        elim (p y) as (λ b. p y ≡ b → In x (cond b (y ∷ filter p xs) (filter p xs)) → In x (y ∷ xs) × (p x ≡ true)) [
          | true ↦ λ e t. elim (in-cases y (filter p xs) t) [
            | inl is ↦ (first is, ap p (sym is) ∙ e)
            | inr later ↦ let found = from-filter xs later in (after found.0, found.1)
          ]
          | false ↦ λ e t. let found = from-filter xs t in (after found.0, found.1)
        ] refl s

    -- an element that passes
    pub any-in : (xs : List X) → In x xs → p x ≡ true → list_any p xs ≡ true
    any-in [] s passes = elim s [ ]
    any-in (y ∷ xs) (first is) passes = or_left (p y) (list_any p xs) (ap p is ∙ passes)
    any-in (y ∷ xs) (after s) passes = or_right (p y) (list_any p xs) (any-in xs s passes)

  -- ---- sorting

  module _ (cmp : X → X → Ordering) where
    pub in-inserted : (z : X) (xs : List X) → (z ≡ x) ⊎ In x xs → In x (inserted cmp z xs)
    in-inserted z [] (inl is) = first is
    in-inserted z [] (inr s) = elim s [ ]
    in-inserted z (y ∷ xs) which =
        elim (is_gt (cmp z y)) as (λ b. In x (cond b (y ∷ inserted cmp z xs) (z ∷ y ∷ xs))) [
          | true ↦ elim which [
            | inl is ↦ after (in-inserted z xs (inl is))
            | inr s ↦ elim (in-cases y xs s) [ inl this ↦ first this | inr later ↦ after (in-inserted z xs (inr later)) ]
          ]
          | false ↦ elim which [ inl is ↦ first is | inr s ↦ after s ]
        ]

    from-inserted : (z : X) (xs : List X) → In x (inserted cmp z xs) → (z ≡ x) ⊎ In x xs
    from-inserted z [] s = in-cases z [] s
    from-inserted z (y ∷ xs) s =
        elim (is_gt (cmp z y)) as (λ b. In x (cond b (y ∷ inserted cmp z xs) (z ∷ y ∷ xs)) → (z ≡ x) ⊎ In x (y ∷ xs)) [
          | true ↦ λ t. elim (in-cases y (inserted cmp z xs) t) [
            | inl this ↦ inr (first this)
            | inr later ↦ elim (from-inserted z xs later) [ inl is ↦ inl is | inr among ↦ inr (after among) ]
          ]
          | false ↦ λ t. in-cases z (y ∷ xs) t
        ] s

    pub in-sorted : (xs : List X) → In x xs → In x (sorted cmp xs)
    in-sorted [] s = elim s [ ]
    in-sorted (y ∷ xs) (first is) = in-inserted y (sorted cmp xs) (inl is)
    in-sorted (y ∷ xs) (after s) = in-inserted y (sorted cmp xs) (inr (in-sorted xs s))

    pub from-sorted : (xs : List X) → In x (sorted cmp xs) → In x xs
    from-sorted [] s = elim s [ ]
    from-sorted (y ∷ xs) s = elim (from-inserted y (sorted cmp xs) s) [
      | inl is ↦ first is
      | inr among ↦ after (from-sorted xs among)
    ]

-- ---- what is seen of elements

module _ {X Y : Type 0} (f : X → Y) where
  pub in-map : (x : X) (xs : List X) → In x xs → In (f x) (map f xs)
  in-map x [] s = elim s [ ]
  in-map x (z ∷ xs) (first is) = first (ap f is)
  in-map x (z ∷ xs) (after s) = after (in-map x xs s)

  pub from-map : (y : Y) (xs : List X) → In y (map f xs) → (x : X) × In x xs × (f x ≡ y)
  from-map y [] s = elim s [ ]
  from-map y (z ∷ xs) (first is) = (z, first refl, is)
  from-map y (z ∷ xs) (after s) = let found = from-map y xs s in (found.0, after found.1, found.2)

module _ {X Y : Type 0} (f : X → List Y) where
  pub in-flat : (y : Y) (x : X) (xs : List X) → In x xs → In y (f x) → In y (flat_map f xs)
  in-flat y x [] s t = elim s [ ]
  in-flat y x (z ∷ xs) (first is) t = in-before y (f z) (flat_map f xs) (subst (λ w. In y (f w)) (sym is) t)
  in-flat y x (z ∷ xs) (after s) t = in-behind y (f z) (flat_map f xs) (in-flat y x xs s t)

  pub from-flat : (y : Y) (xs : List X) → In y (flat_map f xs) → (x : X) × In x xs × In y (f x)
  from-flat y [] s = elim s [ ]
  from-flat y (z ∷ xs) s = elim (in-append y (f z) (flat_map f xs) s) [
    | inl this ↦ (z, first refl, this)
    | inr later ↦ let found = from-flat y xs later in (found.0, after found.1, found.2)
  ]

-- one that passes a test that some element passes
pub any-from : {X : Type 0} (p : X → Bool) (xs : List X) → list_any p xs ≡ true → (x : X) × In x xs × (p x ≡ true)
any-from p [] none = absurd (false≢true none)
any-from p (x ∷ xs) some = elim (or_cases (p x) (list_any p xs) some) [
  | inl this ↦ (x, first refl, this)
  | inr later ↦ let found = any-from p xs later in (found.0, after found.1, found.2)
]

-- ---- texts, each once

pub in-without : (x : List ℕ) (xs : List (List ℕ)) → In x xs → In x (without_repeats xs)
in-without x [] s = elim s [ ]
in-without x (y ∷ xs) (first is) = first is
in-without x (y ∷ xs) (after s) =
    elim (bytes_eq y x) as (λ b. bytes_eq y x ≡ b → In x (y ∷ filter (λ z. not (bytes_eq y z)) (without_repeats xs))) [
      | true ↦ λ e. first ((bytes_eq-Decides y x).0 e)
      | false ↦ λ e. after (in-filter x (λ z. not (bytes_eq y z)) (without_repeats xs) (in-without x xs s) (not_from_false (bytes_eq y x) e))
    ] refl

pub from-without : (x : List ℕ) (xs : List (List ℕ)) → In x (without_repeats xs) → In x xs
from-without x [] s = elim s [ ]
from-without x (y ∷ xs) s = elim (in-cases x y (filter (λ z. not (bytes_eq y z)) (without_repeats xs)) s) [
  | inl is ↦ first is
  | inr later ↦ after (from-without x xs (from-filter x (λ z. not (bytes_eq y z)) (without_repeats xs) later).0)
]

no_repeats-filter : (p : List ℕ → Bool) (xs : List (List ℕ)) → HasNoRepeats xs → HasNoRepeats (filter p xs)
no_repeats-filter p [] once = tt
no_repeats-filter p (x ∷ xs) once = elim (p x) as (λ b. HasNoRepeats (cond b (x ∷ filter p xs) (filter p xs))) [
  | true ↦ (
    λ again. once.0 (contains-in x xs (from-filter x p xs (in-contains x (filter p xs) again)).0),
    no_repeats-filter p xs once.1,
  )
  | false ↦ no_repeats-filter p xs once.1
]

pub no_repeats : (xs : List (List ℕ)) → HasNoRepeats (without_repeats xs)
no_repeats [] = tt
no_repeats (x ∷ xs) = (
  λ again.
      let other = (from-filter x (λ z. not (bytes_eq x z)) (without_repeats xs)
      (in-contains x (filter (λ z. not (bytes_eq x z)) (without_repeats xs)) again)).1 in
      false≢true (sym (not-true (bytes_eq x x) other) ∙ nat_list_eq_equiv.refl x),
  no_repeats-filter (λ z. not (bytes_eq x z)) (without_repeats xs) (no_repeats xs),
)
