-- Following among other files, where these are the same at all that is looked at.
use Rattle.std.proofs.Common.{◌≡◌, ℕ, zero, suc, ◌+◌, ◌||◌, Bool, true, false, List, refl, sym, ap, subst, ◌∙◌, arith}
use Rattle.std.specs.List.{list_any}
use Rattle.pyc_names.specs.Following.{QualifiedName, ends, leads, step, same_name, arrive, walk, follow, import_count, comes_to, leads_to, on_ring}
use Rattle.pyc_names.specs.Interfaces.{Interface}
use Rattle.pyc_names.specs.Rings.{onward, reached}
use Rattle.pyc_names.specs.Looks.{Look, walk_looks, follow_looks, ring_looks, on_ring_looks}
use Rattle.pyc_names.specs.CarryLaws.{StepCarriesOver, SameLooks, FollowCarriesOver, OnRingCarriesOver}
use Rattle.pyc_names.proofs.FuelLemmas.{leads_to-fuel, walk-fuel}
use Rattle.pyc_names.proofs.LookLemmas.{Clear, AllClear, further, walk-all, all-walk, ring-all, all-ring}

-- tests that fail together are one
one_test : (a b : Bool) → (a ≡ false → b ≡ false) → (b ≡ false → a ≡ false) → a ≡ b
one_test true true to back = refl
one_test true false to back = back refl
one_test false true to back = sym (to refl)
one_test false false to back = refl

module _ (differs : Look → Bool) (files others : List Interface) (one : StepCarriesOver differs files others) where
  walk-same : (n : ℕ) (q : QualifiedName) → AllClear differs files q → walk n files q ≡ walk n others q
  walk-same zero q all = refl
  walk-same (suc n) q all =
      elim (step files q) as (λ s. step files q ≡ s → arrive (walk n files) s ≡ arrive (walk n others) s) [
        | ends found ↦ λ e. refl
        | leads next ↦ λ e. walk-same n next (further differs files q next e all)
      ] refl ∙ ap (arrive (walk n others)) (one q (all zero q refl)).0

  leads_to-same : (n : ℕ) (to q : QualifiedName) → AllClear differs files q → leads_to n files to q ≡ leads_to n others to q
  leads_to-same zero to q all = refl
  leads_to-same (suc n) to q all =
      elim (step files q) as (λ s. step files q ≡ s → comes_to (leads_to n files to) to s ≡ comes_to (leads_to n others to) to s) [
        | ends found ↦ λ e. refl
        | leads next ↦ λ e. ap (λ b. (same_name next to) || b) (leads_to-same n to next (further differs files q next e all))
      ] refl ∙ ap (comes_to (leads_to n others to) to) (one q (all zero q refl)).0

  reached-same : (n : ℕ) (q : QualifiedName) → AllClear differs files q → reached n files q ≡ reached n others q
  reached-same zero q all = refl
  reached-same (suc n) q all =
      elim (step files q) as (λ s. step files q ≡ s → onward (reached n files) s ≡ onward (reached n others) s) [
        | ends found ↦ λ e. refl
        | leads next ↦ λ e. reached-same n next (further differs files q next e all)
      ] refl ∙ ap (onward (reached n others)) (one q (all zero q refl)).0

  -- the same is looked at from all that is reached
  all-over : (test : Look → Bool) (q : QualifiedName) → AllClear differs files q → AllClear test files q → AllClear test others q
  all-over test q none all n r to =
      let here = reached-same n q none ∙ to in subst (Clear test) (one r (none n r here)).1 (all n r here)

  all-back : (test : Look → Bool) (q : QualifiedName) → AllClear differs files q → AllClear test others q → AllClear test files q
  all-back test q none all n r to =
      subst (Clear test) (sym (one r (none n r to)).1) (all n r (sym (reached-same n q none) ∙ to))

  -- ---- the two numbers of steps

  pub follow-same : (q : QualifiedName) → AllClear differs files q → walk (suc (import_count files)) files q ≡ walk (suc (import_count others)) others q
  follow-same q none =
      let n : ℕ = import_count files in
      let m : ℕ = import_count others in
      let e : suc n + m ≡ suc m + n = omega arith in
      sym (walk-fuel files m q) ∙ walk-same (suc n + m) q none ∙ ap (λ k. walk k others q) e ∙ walk-fuel others n q

  pub on_ring-same : (q : QualifiedName) → AllClear differs files q → leads_to (import_count files) files q q ≡ leads_to (import_count others) others q q
  on_ring-same q none =
      let n : ℕ = import_count files in
      let m : ℕ = import_count others in
      let e : n + m ≡ m + n = omega arith in
      sym (leads_to-fuel files m q q) ∙ leads_to-same (n + m) q q none ∙ ap (λ k. leads_to k others q q) e ∙ leads_to-fuel others n q q

  pub follow_looks-same : (q : QualifiedName) → AllClear differs files q → SameLooks (walk_looks (suc (import_count files)) files q) (walk_looks (suc (import_count others)) others q)
  follow_looks-same q none test =
      one_test (list_any test (walk_looks (suc (import_count files)) files q)) (list_any test (walk_looks (suc (import_count others)) others q))
      (λ clear. all-walk test others (suc (import_count others)) q (all-over test q none (walk-all test files (suc (import_count files)) q (omega arith) clear)))
      (λ clear. all-walk test files (suc (import_count files)) q (all-back test q none (walk-all test others (suc (import_count others)) q (omega arith) clear)))

  pub on_ring_looks-same : (q : QualifiedName) → AllClear differs files q → SameLooks (ring_looks (suc (import_count files)) files q q) (ring_looks (suc (import_count others)) others q q)
  on_ring_looks-same q none test =
      one_test (list_any test (ring_looks (suc (import_count files)) files q q)) (list_any test (ring_looks (suc (import_count others)) others q q))
      (λ clear. all-ring test others (suc (import_count others)) q q (all-over test q none (ring-all test files q clear)))
      (λ clear. all-ring test files (suc (import_count files)) q q (all-back test q none (ring-all test others q clear)))

pub follow_carries : FollowCarriesOver
unfolding follow follow_looks
follow_carries differs files others one q clear =
    let all = walk-all differs files (suc (import_count files)) q (omega arith) clear in (follow-same differs files others one q all, follow_looks-same differs files others one q all)

pub on_ring_carries : OnRingCarriesOver
unfolding on_ring on_ring_looks
on_ring_carries differs files others one q clear =
    let all = ring-all differs files q clear in (on_ring-same differs files others one q all, on_ring_looks-same differs files others one q all)
