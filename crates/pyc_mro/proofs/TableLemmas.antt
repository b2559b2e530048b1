-- Tables: what is reached by going to bases.
use Rattle.std.proofs.Common.{◌≡◌, ℕ, zero, suc, ◌+◌, ◌-◌, ◌<◌, ◌≤◌, ◌==◌, ◌||◌, ◌⊎◌, Bool, true, List, [], ◌∷◌, length, unwrap_or, inl, inr, refl, sym, ap, ◌∙◌, arith}
use Rattle.std.specs.List.{list_any}
use Rattle.std.proofs.lemmas.Bool.{cases_lt, or_cases, or_left, or_right, eqb-true, eq-eqb, false≢true}
use Rattle.std.proofs.lemmas.Option.{slice_get_past}
use Rattle.pyc_mro.specs.Merge.{contains}
use Rattle.pyc_mro.specs.Tables.{Table, classes_among, bases_of, parents, reaches}

-- one that passes a test that some number of a row passes
pub any-found : (p : ℕ → Bool) (xs : List ℕ) → list_any p xs ≡ true → (x : ℕ) × (contains xs x ≡ true) × (p x ≡ true)
any-found p [] none = absurd (false≢true none)
any-found p (x ∷ xs) some = elim (or_cases (p x) (list_any p xs) some) [
  | inl here ↦ (x, or_left (x == x) (contains xs x) (eq-eqb x x refl), here)
  | inr later ↦ let found = any-found p xs later in (found.0, or_right (x == found.0) (contains xs found.0) found.1, found.2)
]

-- a number of a row that passes a test
pub any-from : (p : ℕ → Bool) (xs : List ℕ) (x : ℕ) → contains xs x ≡ true → p x ≡ true → list_any p xs ≡ true
any-from p [] x none passes = absurd (false≢true none)
any-from p (y ∷ xs) x in' passes = elim (or_cases (y == x) (contains xs x) in') [
  | inl here ↦ or_left (p y) (list_any p xs) (ap p (eqb-true y x here) ∙ passes)
  | inr later ↦ or_right (p y) (list_any p xs) (any-from p xs x later passes)
]

module _ (table : Table) where
  -- what is no class of the table has no bases
  bases_of-past : (c : ℕ) → length table ≤ c → bases_of table c ≡ []
  bases_of-past c past = ap (λ o. unwrap_or o []) (slice_get_past table c past)

  -- nor does it reach a class
  pub reaches-within : (n from to : ℕ) → reaches table n from to ≡ true → from < length table
  reaches-within zero from to none = absurd (false≢true none)
  reaches-within (suc n) from to there = elim (cases_lt from (length table)) [
    | inl within ↦ within
    | inr past ↦ absurd (false≢true (ap (λ bases. list_any (λ parent. parent == to || reaches table n parent to) (classes_among bases)) (sym (bases_of-past from past)) ∙ there))
  ]

  -- a base is reached
  pub reaches-base : (n from to : ℕ) → contains (parents table from) to ≡ true → reaches table (suc n) from to ≡ true
  reaches-base n from to base = any-from (λ parent. parent == to || reaches table n parent to) (parents table from) to base (or_left (to == to) (reaches table n to to) (eq-eqb to to refl))

  -- what a base reaches is reached
  pub reaches-through : (n from base to : ℕ) → contains (parents table from) base ≡ true → reaches table n base to ≡ true → reaches table (suc n) from to ≡ true
  reaches-through n from base to is there = any-from (λ parent. parent == to || reaches table n parent to) (parents table from) base is (or_right (base == to) (reaches table n base to) there)

  -- what is reached is a base, or is reached by one
  pub reaches-parts : (n from to : ℕ) → reaches table (suc n) from to ≡ true
      → (base : ℕ) × (contains (parents table from) base ≡ true) × ((base ≡ to) ⊎ (reaches table n base to ≡ true))
  reaches-parts n from to there =
      let found = any-found (λ parent. parent == to || reaches table n parent to) (parents table from) there in (
        found.0,
        found.1,
        elim (or_cases (found.0 == to) (reaches table n found.0 to) found.2) [
          | inl here ↦ inl (eqb-true found.0 to here)
          | inr later ↦ inr later
        ],
      )

  -- what is reached in some steps is reached in one more
  pub reaches-more : (n from to : ℕ) → reaches table n from to ≡ true → reaches table (suc n) from to ≡ true
  reaches-more zero from to none = absurd (false≢true none)
  reaches-more (suc n) from to there =
      let parts = reaches-parts n from to there in
      elim (parts.2) [
        | inl is ↦ reaches-base (suc n) from to (ap (contains (parents table from)) (sym is) ∙ parts.1)
        | inr later ↦ reaches-through (suc n) from parts.0 to parts.1 (reaches-more n parts.0 to later)
      ]

  -- a base of what is reached is reached in one step more
  pub reaches-further : (n from to base : ℕ) → reaches table n from to ≡ true → contains (parents table to) base ≡ true → reaches table (suc n) from base ≡ true
  reaches-further zero from to base none is = absurd (false≢true none)
  reaches-further (suc n) from to base there is =
      let parts = reaches-parts n from to there in
      elim (parts.2) [
        | inl here ↦ reaches-through (suc n) from parts.0 base parts.1 (reaches-base n parts.0 base (ap (λ t. contains (parents table t) base) here ∙ is))
        | inr later ↦ reaches-through (suc n) from parts.0 base parts.1 (reaches-further n parts.0 to base later is)
      ]

  -- what is reached in some steps is reached in any more
  pub reaches-any : (more n from to : ℕ) → reaches table n from to ≡ true → reaches table (more + n) from to ≡ true
  reaches-any zero n from to there = let e : zero + n ≡ n = omega arith in ap (λ k. reaches table k from to) e ∙ there
  reaches-any (suc more) n from to there =
      let e : suc more + n ≡ suc (more + n) = omega arith in
      ap (λ k. reaches table k from to) e ∙ reaches-more (more + n) from to (reaches-any more n from to there)

  -- what is reached in some steps is reached in no fewer
  pub reaches-up : (n m from to : ℕ) → n ≤ m → reaches table n from to ≡ true → reaches table m from to ≡ true
  reaches-up n m from to le there =
      let e : m ≡ (m - n) + n = omega arith in
      ap (λ k. reaches table k from to) e ∙ reaches-any (m - n) n from to there
