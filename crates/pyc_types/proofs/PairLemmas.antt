-- The pairs of parameters of two callables.
use Rattle.std.proofs.Common.{◌≡◌, ℕ, zero, suc, ◌+◌, Bool, true, false, ◌||◌, not, Option, Some, None, IsTrue, refl, sym, ap, subst, is_some, arith}
use Rattle.std.proofs.Math.Nat.{zero-add}
use Rattle.std.proofs.lemmas.Bool.{false≢true, and_parts, and_from}
use Rattle.pyc_class_ids.specs.Mro.{MroTable}
use Rattle.pyc_type_forms.specs.Types.{Ty, Listed, no_param, param}
use Rattle.pyc_types.specs.declared.ways.Ways.{Ways}
use Rattle.pyc_types.specs.Parameters.{serves}
use Rattle.pyc_types.specs.Assignable.{slots_of, type_at}
use Rattle.pyc_types.specs.Pairs.{both, meet, pair_ways, row_ways, rows_ways}
use Rattle.pyc_types.specs.Ways.{ways, listed_ways_of}

abbrev pub value_or : {X : Type 0} → X → Option X → X
value_or x (Some y) = y
value_or x None = x

pub some_is : {X : Type 0} {x y : X} → Some x ≡ Some y → x ≡ y
some_is {X} {x} {y} same = ap (value_or x) same

pub none≢some : {X : Type 0} {x : X} → None ≡ Some x → ⊥
none≢some {X} {x} same = false≢true (ap is_some same)

add-zero : (n : ℕ) → n + 0 ≡ n
add-zero n = omega arith

add-suc : (n m : ℕ) → n + suc m ≡ suc n + m
add-suc n m = omega arith

-- ---- from each pair to all

module _ (o : MroTable) where
  row_from : (pair : ℕ → Ways → Ways) (get : Ways → Bool) (meets : (a b : Ways) → get a ≡ true → get b ≡ true → get (meet a b) ≡ true) (ends : get (both true true) ≡ true)
      (n : ℕ) (p : Ty) (qs : Listed) → ((j : ℕ) (q : Ty) → type_at qs j ≡ Some q → get (pair (n + j) (ways o p q)) ≡ true) → get (row_ways pair n (ways o p) qs) ≡ true
  row_from pair get meets ends n p no_param each = ends
  row_from pair get meets ends n p (param slot q qs) each =
      meets _ _ (subst (λ k. get (pair k (ways o p q)) ≡ true) (add-zero n) (each 0 q refl))
      (row_from pair get meets ends (suc n) p qs (λ j q' at. subst (λ k. get (pair k (ways o p q')) ≡ true) (add-suc n j) (each (suc j) q' at)))

  rows_from : (pair : ℕ → ℕ → Ways → Ways) (get : Ways → Bool) (meets : (a b : Ways) → get a ≡ true → get b ≡ true → get (meet a b) ≡ true) (ends : get (both true true) ≡ true)
      (n : ℕ) (ps qs : Listed) → ((i j : ℕ) (p q : Ty) → type_at ps i ≡ Some p → type_at qs j ≡ Some q → get (pair (n + i) j (ways o p q)) ≡ true) → get (rows_ways pair n (listed_ways_of o ps) qs) ≡ true
  rows_from pair get meets ends n no_param qs each = ends
  rows_from pair get meets ends n (param slot p ps) qs each =
      meets _ _ (row_from (pair n) get meets ends 0 p qs (λ j q at. rw (zero-add j) (subst (λ k. get (pair k j (ways o p q)) ≡ true) (add-zero n) (each 0 j p q refl at))))
      (rows_from pair get meets ends (suc n) ps qs (λ i j p' q a b. subst (λ k. get (pair k j (ways o p' q)) ≡ true) (add-suc n i) (each (suc i) j p' q a b)))

-- not one or the other, from the other where one holds
implied : (s b : Bool) → (IsTrue s → b ≡ true) → (not s || b) ≡ true
implied true b holds = holds refl
implied false b holds = refl

module _ (o : MroTable) (ps qs : Listed) where
  -- where each wanted parameter goes backwards to the one that serves it, all pairs go there
  pub rows_there : ((i j : ℕ) (p q : Ty) → type_at ps i ≡ Some p → type_at qs j ≡ Some q → IsTrue (serves (slots_of ps) (slots_of qs) i j) → (ways o p q).back ≡ true)
      → (rows_ways (pair_ways (slots_of ps) (slots_of qs)) 0 (listed_ways_of o ps) qs).there ≡ true
  rows_there each =
      rows_from o (pair_ways (slots_of ps) (slots_of qs)) (λ w. w.there) (λ a b x y. and_from a.there b.there x y) refl 0 ps qs
      (λ i j p q a b. rw (zero-add i) (implied (serves (slots_of ps) (slots_of qs) i j) (ways o p q).back (each i j p q a b)))

  -- and asked the other way round, all pairs go back
  pub rows_back : ((i j : ℕ) (p q : Ty) → type_at ps i ≡ Some p → type_at qs j ≡ Some q → IsTrue (serves (slots_of ps) (slots_of qs) i j) → (ways o q p).there ≡ true)
      → (rows_ways (pair_ways (slots_of qs) (slots_of ps)) 0 (listed_ways_of o qs) ps).back ≡ true
  rows_back each =
      rows_from o (pair_ways (slots_of qs) (slots_of ps)) (λ w. w.back) (λ a b x y. and_from a.back b.back x y) refl 0 qs ps
      (λ j i q p b a. rw (zero-add j) (implied (serves (slots_of ps) (slots_of qs) i j) (ways o q p).there (each i j p q a b)))

-- ---- from all to each pair

module _ (o : MroTable) where
  row_at : (pair : ℕ → Ways → Ways) (get : Ways → Bool) (parts : (a b : Ways) → get (meet a b) ≡ true → (get a ≡ true) × (get b ≡ true))
      (n : ℕ) (p : Ty) (qs : Listed) (j : ℕ) (q : Ty) → type_at qs j ≡ Some q → get (row_ways pair n (ways o p) qs) ≡ true → get (pair (n + j) (ways o p q)) ≡ true
  row_at pair get parts n p no_param j q at holds = absurd (none≢some at)
  row_at pair get parts n p (param slot q' qs) zero q at holds =
      subst (λ k. get (pair k (ways o p q)) ≡ true) (sym (add-zero n)) (subst (λ t. get (pair n (ways o p t)) ≡ true) (some_is at) (parts _ _ holds).0)
  row_at pair get parts n p (param slot q' qs) (suc j) q at holds =
      subst (λ k. get (pair k (ways o p q)) ≡ true) (sym (add-suc n j)) (row_at pair get parts (suc n) p qs j q at (parts _ _ holds).1)

  rows_at : (pair : ℕ → ℕ → Ways → Ways) (get : Ways → Bool) (parts : (a b : Ways) → get (meet a b) ≡ true → (get a ≡ true) × (get b ≡ true))
      (n : ℕ) (ps qs : Listed) (i j : ℕ) (p q : Ty) → type_at ps i ≡ Some p → type_at qs j ≡ Some q → get (rows_ways pair n (listed_ways_of o ps) qs) ≡ true → get (pair (n + i) j (ways o p q)) ≡ true
  rows_at pair get parts n no_param qs i j p q a b holds = absurd (none≢some a)
  rows_at pair get parts n (param slot p' ps) qs zero j p q a b holds =
      subst (λ k. get (pair k j (ways o p q)) ≡ true) (sym (add-zero n)) (subst (λ t. get (pair n j (ways o t q)) ≡ true) (some_is a) (subst (λ k. get (pair n k (ways o p' q)) ≡ true) (zero-add j) (row_at (pair n) get parts 0 p' qs j q b (parts _ _ holds).0)))
  rows_at pair get parts n (param slot p' ps) qs (suc i) j p q a b holds =
      subst (λ k. get (pair k j (ways o p q)) ≡ true) (sym (add-suc n i)) (rows_at pair get parts (suc n) ps qs i j p q a b (parts _ _ holds).1)

-- the other, where one holds
implies : (s b : Bool) → (not s || b) ≡ true → IsTrue s → b ≡ true
implies true b h s = h
implies false b h s = absurd (false≢true s)

module _ (o : MroTable) (ps qs : Listed) (i j : ℕ) (p q : Ty) (at : type_at ps i ≡ Some p) (at' : type_at qs j ≡ Some q) where
  -- where all pairs go there, a wanted parameter goes backwards to the one that serves it
  pub served_there : (rows_ways (pair_ways (slots_of ps) (slots_of qs)) 0 (listed_ways_of o ps) qs).there ≡ true → IsTrue (serves (slots_of ps) (slots_of qs) i j) → (ways o p q).back ≡ true
  served_there holds s =
      implies (serves (slots_of ps) (slots_of qs) i j) (ways o p q).back
      (subst (λ k. (pair_ways (slots_of ps) (slots_of qs) k j (ways o p q)).there ≡ true) (zero-add i)
      (rows_at o (pair_ways (slots_of ps) (slots_of qs)) (λ w. w.there) (λ a b h. and_parts a.there b.there h) 0 ps qs i j p q at at' holds)) s

  -- where all pairs go back, one of got's goes to the wanted one that serves it
  pub served_back : (rows_ways (pair_ways (slots_of ps) (slots_of qs)) 0 (listed_ways_of o ps) qs).back ≡ true → IsTrue (serves (slots_of qs) (slots_of ps) j i) → (ways o p q).there ≡ true
  served_back holds s =
      implies (serves (slots_of qs) (slots_of ps) j i) (ways o p q).there
      (subst (λ k. (pair_ways (slots_of ps) (slots_of qs) k j (ways o p q)).back ≡ true) (zero-add i)
      (rows_at o (pair_ways (slots_of ps) (slots_of qs)) (λ w. w.back) (λ a b h. and_parts a.back b.back h) 0 ps qs i j p q at at' holds)) s
