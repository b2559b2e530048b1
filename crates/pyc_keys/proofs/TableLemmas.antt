-- A table of keys and their numbers.
use Rattle.std.proofs.Common.{◌≡◌, ◌≢◌, ℕ, List, IfSome, IfNone, subst, Bool, true, false, ◌==◌, cond, Option, None, Some, refl, sym, ap, ◌∙◌, true≢false}
use Rattle.std.specs.Map.{lookup}
use Rattle.std.proofs.lemmas.Bool.{eqb-true, eqb-false}
use Rattle.pyc_keys.specs.Inverse.{AreInverse}
use Rattle.pyc_keys.specs.KeyEquality.{is_asked, is_asked_equiv, keys_are}
use Rattle.pyc_keys.specs.Numbering.{Numbering, IsInjective}
use Rattle.pyc_keys.proofs.NumberingLemmas.{none_some, same_some}
use Rattle.pyc_reading.specs.Keys.{Key}

-- no key has two numbers
pub apart : (keys : Numbering Key) (numbers : Key → Option ℕ) → AreInverse keys numbers → IsInjective keys
apart keys numbers inverse i j key h g = same_some (sym (inverse.back i key h) ∙ inverse.back j key g)

-- a key without a number is not held
pub not_held : (keys : Numbering Key) (numbers : Key → Option ℕ) (key : Key) → AreInverse keys numbers → numbers key ≡ None
    → (i : ℕ) → keys i ≢ Some key
not_held keys numbers key inverse none i h = none_some (sym none ∙ inverse.back i key h)

-- a key that is not held has no number
pub no_number : (keys : Numbering Key) (numbers : Key → Option ℕ) (key : Key) → AreInverse keys numbers
    → ((i : ℕ) → keys i ≢ Some key) → numbers key ≡ None
no_number keys numbers key inverse absent = by (numbers key) refl
  where
    by : (found : Option ℕ) → numbers key ≡ found → found ≡ None
    by None e = refl
    by (Some i) e = absurd (absent i (inverse.there key i e))

-- the number that is found
pub found_held : (keys : Numbering Key) (numbers : Key → Option ℕ) (key : Key) (found : Option ℕ) → AreInverse keys numbers
    → found ≡ numbers key → IfSome found (λ i. keys i ≡ Some key)
found_held keys numbers key None inverse e = tt
found_held keys numbers key (Some i) inverse e = inverse.there key i (sym e)

pub found_none : (keys : Numbering Key) (numbers : Key → Option ℕ) (key : Key) (found : Option ℕ) → AreInverse keys numbers
    → found ≡ numbers key → IfNone found ((i : ℕ) → keys i ≢ Some key)
found_none keys numbers key None inverse e = not_held keys numbers key inverse (sym e)
found_none keys numbers key (Some i) inverse e = tt

-- where the entries `es` are an inverse of the keys, so are entries `fs` that are equal to them
pub same_entries : (keys : Numbering Key) (es fs : List (Key × ℕ)) → fs ≡ es → AreInverse keys (λ k. lookup (is_asked k) es)
    → AreInverse keys (λ k. lookup (is_asked k) fs)
same_entries keys es fs same inverse = subst (λ xs. AreInverse keys (λ k. lookup (is_asked k) xs)) (sym same) inverse

module _ (keys keys_new : Numbering Key) (numbers numbers_new : Key → Option ℕ) (i : ℕ) (key : Key) where
  -- one more key, at a number that was free
  pub inverse_with : AreInverse keys numbers → keys i ≡ None → numbers key ≡ None
      → keys_new i ≡ Some key → ((j : ℕ) → j ≢ i → keys_new j ≡ keys j)
      → ((q : Key) → numbers_new q ≡ cond (is_asked key q) (Some i) (numbers q))
      → AreInverse keys_new numbers_new
  inverse_with inverse free none here others updated = record { there = there; back = back }
    where
      there : (q : Key) (j : ℕ) → numbers_new q ≡ Some j → keys_new j ≡ Some q
      there q j h = elim (is_asked key q) as (λ b. is_asked key q ≡ b → cond b (Some i) (numbers q) ≡ Some j → keys_new j ≡ Some q) [
        | true ↦ λ e f. ap keys_new (sym (same_some f)) ∙ here ∙ ap (λ k. Some k) (sym (keys_are q key e))
        | false ↦ λ e f. others j (λ same. none_some (sym free ∙ ap keys (sym same) ∙ inverse.there q j f)) ∙ inverse.there q j f
      ]
          refl (sym (updated q) ∙ h)

      back : (j : ℕ) (q : Key) → keys_new j ≡ Some q → numbers_new q ≡ Some j
      back j q h = elim (i == j) as (λ b. (i == j) ≡ b → numbers_new q ≡ Some j) [
        | true ↦ λ e.
            let is : key ≡ q = same_some (sym here ∙ ap keys_new (eqb-true i j e) ∙ h) in
            updated q ∙ ap (λ b. cond b (Some i) (numbers q)) (ap (is_asked key) (sym is) ∙ is_asked_equiv.refl key) ∙ ap (λ n. Some n) (eqb-true i j e)
        | false ↦ λ e.
            let before : keys j ≡ Some q = sym (others j (λ same. eqb-false i j e (sym same))) ∙ h in
            updated q ∙ other (is_asked key q) refl (inverse.back j q before)
      ] refl
        where
          other : (b : Bool) → is_asked key q ≡ b → numbers q ≡ Some j → cond b (Some i) (numbers q) ≡ Some j
          other true e f = absurd (none_some (sym none ∙ ap numbers (sym (keys_are q key e)) ∙ f))
          other false e f = f

  -- one key less
  pub inverse_without : AreInverse keys numbers → keys i ≡ Some key
      → keys_new i ≡ None → ((j : ℕ) → j ≢ i → keys_new j ≡ keys j)
      → ((q : Key) → numbers_new q ≡ cond (is_asked key q) None (numbers q))
      → AreInverse keys_new numbers_new
  inverse_without inverse here free others updated = record { there = there; back = back }
    where
      there : (q : Key) (j : ℕ) → numbers_new q ≡ Some j → keys_new j ≡ Some q
      there q j h = elim (is_asked key q) as (λ b. is_asked key q ≡ b → cond b None (numbers q) ≡ Some j → keys_new j ≡ Some q) [
        | true ↦ λ e f. absurd (none_some f)
        | false ↦ λ e f. others j (λ same. true≢false (sym (is_key j q f same) ∙ e)) ∙ inverse.there q j f
      ]
          refl (sym (updated q) ∙ h)
        where
          is_key : (j : ℕ) (q : Key) → numbers q ≡ Some j → j ≡ i → is_asked key q ≡ true
          is_key j q f same =
              let is : key ≡ q = same_some (sym here ∙ ap keys (sym same) ∙ inverse.there q j f) in
              ap (is_asked key) (sym is) ∙ is_asked_equiv.refl key

      back : (j : ℕ) (q : Key) → keys_new j ≡ Some q → numbers_new q ≡ Some j
      back j q h = elim (i == j) as (λ b. (i == j) ≡ b → numbers_new q ≡ Some j) [
        | true ↦ λ e. absurd (none_some (sym free ∙ ap keys_new (eqb-true i j e) ∙ h))
        | false ↦ λ e.
            let before : keys j ≡ Some q = sym (others j (λ same. eqb-false i j e (sym same))) ∙ h in
            updated q ∙ other (eqb-false i j e) (is_asked key q) refl (inverse.back j q before)
      ] refl
        where
          other : i ≢ j → (b : Bool) → is_asked key q ≡ b → numbers q ≡ Some j → cond b None (numbers q) ≡ Some j
          other apart true e f =
              absurd (apart (same_some (sym (inverse.back i key here) ∙ ap numbers (sym (keys_are q key e)) ∙ f)))
          other apart false e f = f
