-- What is looked at where a name is followed: all that steps look at from the names that are reached.
use Rattle.std.proofs.Common.{◌≡◌, ℕ, zero, suc, ◌<◌, ◌≤◌, ◌||◌, Bool, true, false, if◌then◌else◌, List, [], ◌++◌, Some, IsTrue, inl, inr, refl, sym, ap, subst, ◌∙◌, arith}
use Rattle.std.proofs.lemmas.Bool.{cases_Bool, or_parts, false≢true}
use Rattle.std.proofs.lemmas.List.Folds.{list_any-append}
use Rattle.std.proofs.lemmas.Option.{none-some, same_Some}
use Rattle.std.specs.List.{list_any}
use Rattle.pyc_names.specs.Following.{QualifiedName, ends, leads, step, same_name, import_count, comes_to, leads_to}
use Rattle.pyc_names.specs.Interfaces.{Interface}
use Rattle.pyc_names.specs.Rings.{onward, reached}
use Rattle.pyc_names.specs.Looks.{Look, step_looks, looks_on, walk_looks, looks_on_to, ring_looks}
use Rattle.pyc_names.proofs.RingLemmas.{same_name-is}
use Rattle.pyc_names.proofs.FuelLemmas.{near}

-- nothing among these passes a test
abbrev pub Clear : (Look → Bool) → List Look → Type 0
Clear test looks = list_any test looks ≡ false

-- nothing passes it that steps look at from the names that are reached from a name
abbrev pub AllClear : (Look → Bool) → List Interface → QualifiedName → Type 0
AllClear test files q = (n : ℕ) (r : QualifiedName) → reached n files q ≡ Some r → Clear test (step_looks files r)

module _ (test : Look → Bool) where
  pub clear_both : (xs ys : List Look) → Clear test xs → Clear test ys → Clear test (xs ++ ys)
  clear_both xs ys first second = list_any-append test xs ys ∙ ap (λ b. b || list_any test ys) first ∙ second

  pub clear_parts : (xs ys : List Look) → Clear test (xs ++ ys) → Clear test xs × Clear test ys
  clear_parts xs ys clear = or_parts (list_any test xs) (list_any test ys) (sym (list_any-append test xs ys) ∙ clear)

  module _ (files : List Interface) where
    -- what is reached from where a step leads
    pub further : (q next : QualifiedName) → step files q ≡ leads next → AllClear test files q → AllClear test files next
    further q next e all n r to = all (suc n) r (ap (onward (reached n files)) e ∙ to)

    -- a walk looks at what its steps look at
    clear-at : (n k : ℕ) (q r : QualifiedName) → k < n → reached k files q ≡ Some r → Clear test (walk_looks n files q) → Clear test (step_looks files r)
    clear-at zero k q r lt to clear = absurd (omega arith)
    clear-at (suc n) zero q r lt to clear =
        subst (λ (at : QualifiedName). Clear test (step_looks files at)) (same_Some q r to) (clear_parts (step_looks files q) (looks_on (walk_looks n files) (step files q)) clear).0
    clear-at (suc n) (suc k) q r lt to clear =
        elim (step files q) as (λ s. onward (reached k files) s ≡ Some r → Clear test (looks_on (walk_looks n files) s) → Clear test (step_looks files r)) [
          | ends found ↦ λ to clear. absurd (none-some r to)
          | leads next ↦ λ to clear. clear-at n k next r (omega arith) to clear
        ] to (clear_parts (step_looks files q) (looks_on (walk_looks n files) (step files q)) clear).1

    -- a walk of at least one step more than there are imports looks at all
    pub walk-all : (n : ℕ) (q : QualifiedName) → suc (import_count files) ≤ n → Clear test (walk_looks n files q) → AllClear test files q
    walk-all n q le clear zero r to = clear-at n zero q r (omega arith) to clear
    walk-all n q le clear (suc k) r to =
        let soon = near files k q r to in let f = soon.few in clear-at n (suc soon.steps) q r (omega arith) soon.there clear

    -- and at nothing else
    pub all-walk : (n : ℕ) (q : QualifiedName) → AllClear test files q → Clear test (walk_looks n files q)
    all-walk zero q all = refl
    all-walk (suc n) q all =
        clear_both (step_looks files q) (looks_on (walk_looks n files) (step files q)) (all zero q refl)
        (elim (step files q) as (λ s. step files q ≡ s → Clear test (looks_on (walk_looks n files) s)) [
          | ends found ↦ λ e. refl
          | leads next ↦ λ e. all-walk n next (further q next e all)
        ] refl)

    -- ---- rings

    -- where steps do not lead to the name, one step more looks at what a walk looks at
    on-walk : (n : ℕ) (to q : QualifiedName) → leads_to n files to q ≡ false → Clear test (ring_looks (suc n) files to q) → Clear test (walk_looks (suc n) files q)
    on-walk zero to q away clear =
        clear_both (step_looks files q) (looks_on (walk_looks zero files) (step files q))
        (clear_parts (step_looks files q) (looks_on_to (ring_looks zero files to) to (step files q)) clear).0
        (elim (step files q) as (λ s. Clear test (looks_on (walk_looks zero files) s)) [
          | ends found ↦ refl
          | leads next ↦ refl
        ])
    on-walk (suc n) to q away clear =
        let parts = clear_parts (step_looks files q) (looks_on_to (ring_looks (suc n) files to) to (step files q)) clear in
        clear_both (step_looks files q) (looks_on (walk_looks (suc n) files) (step files q)) parts.0
        (elim (step files q) as (λ s. comes_to (leads_to n files to) to s ≡ false → Clear test (looks_on_to (ring_looks (suc n) files to) to s) → Clear test (looks_on (walk_looks (suc n) files) s)) [
          | ends found ↦ λ away clear. refl
          | leads next ↦ λ away clear.
              let other = or_parts (same_name next to) (leads_to n files to next) away in
              on-walk n to next other.1 (sym (ap (λ b. list_any test (if b then [] else ring_looks (suc n) files to next)) other.0) ∙ clear)
        ] away parts.1)

    -- where they lead back, a walk of any length looks at what stands on the ring
    round : (n : ℕ) (q : QualifiedName) → IsTrue (leads_to n files q q) → Clear test (ring_looks (suc n) files q q) → (m k : ℕ) (r : QualifiedName) → IsTrue (leads_to k files q r)
        → Clear test (ring_looks (suc k) files q r) → Clear test (walk_looks m files r)
    round n q home whole zero k r back clear = refl
    round n q home whole (suc m) zero r back clear = absurd (false≢true back)
    round n q home whole (suc m) (suc k) r back clear =
        let parts = clear_parts (step_looks files r) (looks_on_to (ring_looks (suc k) files q) q (step files r)) clear in
        clear_both (step_looks files r) (looks_on (walk_looks m files) (step files r)) parts.0
        (elim (step files r) as (λ s. IsTrue (comes_to (leads_to k files q) q s) → Clear test (looks_on_to (ring_looks (suc k) files q) q s) → Clear test (looks_on (walk_looks m files) s)) [
          | ends found ↦ λ back clear. refl
          | leads next ↦ λ back clear. elim (cases_Bool (same_name next q)) [
            | inl same ↦ subst (λ (at : QualifiedName). Clear test (walk_looks m files at)) (sym (same_name-is next q same)) (round n q home whole m n q home whole)
            | inr other ↦ round n q home whole m k next (sym (ap (λ b. b || leads_to k files q next) other) ∙ back)
                (sym (ap (λ b. list_any test (if b then [] else ring_looks (suc k) files q next)) other) ∙ clear)
          ]
        ] back parts.1)

    -- telling whether a name is on a ring looks at all
    pub ring-all : (q : QualifiedName) → Clear test (ring_looks (suc (import_count files)) files q q) → AllClear test files q
    ring-all q clear = walk-all (suc (import_count files)) q (omega arith) (elim (cases_Bool (leads_to (import_count files) files q q)) [
      | inl home ↦ round (import_count files) q home clear (suc (import_count files)) (import_count files) q home clear
      | inr away ↦ on-walk (import_count files) q q away clear
    ])

    -- and at nothing else
    pub all-ring : (n : ℕ) (to q : QualifiedName) → AllClear test files q → Clear test (ring_looks n files to q)
    all-ring zero to q all = refl
    all-ring (suc n) to q all =
        clear_both (step_looks files q) (looks_on_to (ring_looks n files to) to (step files q)) (all zero q refl)
        (elim (step files q) as (λ s. step files q ≡ s → Clear test (looks_on_to (ring_looks n files to) to s)) [
          | ends found ↦ λ e. refl
          | leads next ↦ λ e. elim (same_name next to) as (λ b. Clear test (if b then [] else ring_looks n files to next)) [
            | true ↦ refl
            | false ↦ all-ring n to next (further q next e all)
          ]
        ] refl)
