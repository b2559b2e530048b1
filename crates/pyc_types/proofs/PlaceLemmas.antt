-- Lookups in rows of parameters.
use Rattle.std.proofs.Common.{◌≡◌, ℕ, zero, suc, ◌<◌, Bool, true, false, List, [], ◌∷◌, length, get_or, sym, ap, Some, inl, inr, refl, arith}
use Rattle.std.proofs.Math.Bool.{and-false, or-true}
use Rattle.std.proofs.lemmas.Bool.{cases_lt}
use Rattle.std.specs.List.{slice_get}
use Rattle.pyc_types.specs.Parameters.{all_below, any_below}

-- where one number fails, not all pass
pub below_fails : (n : ℕ) (test : ℕ → Bool) (j : ℕ) → j < n → test j ≡ false → all_below n test ≡ false
below_fails zero test j within fails = absurd (omega arith)
below_fails (suc n) test j within fails =
    elim (cases_lt j n) [
      | inl below ↦ rw (below_fails n test j below fails) refl
      | inr above ↦
          let same : n ≡ j = omega arith in
          rw (same, fails) (and-false _)
    ]

-- where one number passes, some do
pub below_passes : (n : ℕ) (test : ℕ → Bool) (j : ℕ) → j < n → test j ≡ true → any_below n test ≡ true
below_passes zero test j within passes = absurd (omega arith)
below_passes (suc n) test j within passes =
    elim (cases_lt j n) [
      | inl below ↦ rw (below_passes n test j below passes) refl
      | inr above ↦
          let same : n ≡ j = omega arith in
          rw (same, passes) (or-true _)
    ]

-- numbers below a bound
pub ruleset below = (below_fails, below_passes)

-- what stands at a place
pub looked_at : {X : Type 0} (xs : List X) (j : ℕ) (x : X) → j < length xs → x ≡ get_or xs j x → slice_get xs j ≡ Some x
looked_at [] j x within is = absurd (omega arith)
looked_at (y ∷ xs) zero x within is = ap Some (sym is)
looked_at (y ∷ xs) (suc j) x within is = looked_at xs j x (omega arith) is
