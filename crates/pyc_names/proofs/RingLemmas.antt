-- Rings: what is reached from a name that comes back to itself.
use Rattle.std.proofs.Common.{◌≡◌, ℕ, zero, suc, ◌+◌, ◌≤◌, List, Option, None, Some, IsTrue, bytes_eq, inl, inr, refl, sym, ap, ap₂, ◌∙◌, arith}
use Rattle.std.proofs.lemmas.Bool.{and_parts, or_cases, false≢true}
use Rattle.std.proofs.lemmas.Option.{none-some}
use Rattle.std.proofs.lemmas.Slice.Eq.{slice_eq-Decides, bytes_eq-Decides}
use Rattle.pyc_names.specs.Following.{QualifiedName, cycle, ends, leads, step, same_name, arrive, walk, follow, import_count, comes_to, leads_to, on_ring}
use Rattle.pyc_names.specs.ModuleName.{same_module}
use Rattle.pyc_names.specs.Rings.{onward, reached, IsOnRing, RingsAreCycles, RingsStayRings, ReportedRingsAreRings}
use Rattle.pyc_names.specs.Interfaces.{Interface}

-- ---- equal names

-- modules with the same parts are one module
pub same_module-is : (a b : List (List ℕ)) → IsTrue (same_module a b) → a ≡ b
same_module-is a b = (slice_eq-Decides bytes_eq-Decides a b (same_module a b) refl).0

pub same_module-same : (a b : List (List ℕ)) → a ≡ b → IsTrue (same_module a b)
same_module-same a b = (slice_eq-Decides bytes_eq-Decides a b (same_module a b) refl).1

-- names of one module that are spelled alike are one name
pub same_name-is : (a b : QualifiedName) → IsTrue (same_name a b) → a ≡ b
same_name-is a b same =
    let parts = and_parts (same_module a.module_path b.module_path) (bytes_eq a.name b.name) same in
    let named : List (List ℕ) → List ℕ → QualifiedName = λ module_path name. record { module_path = module_path; name = name } in
    ap₂ named (same_module-is a.module_path b.module_path parts.0) ((bytes_eq-Decides a.name b.name).0 parts.1)

-- ---- steps in a row

-- what is found from a name that was reached, if one was
abbrev from_there : (QualifiedName → Option QualifiedName) → Option QualifiedName → Option QualifiedName
from_there further None = None
from_there further (Some q) = further q

module _ (files : List Interface) where
  -- steps, and then more
  reached-add : (n m : ℕ) (q : QualifiedName) → reached (n + m) files q ≡ from_there (reached m files) (reached n files q)
  reached-add zero m q = let e : zero + m ≡ m = omega arith in ap (λ k. reached k files q) e
  reached-add (suc n) m q =
      let e : suc n + m ≡ suc (n + m) = omega arith in
      ap (λ k. reached k files q) e ∙ elim (step files q) as (λ s. onward (reached (n + m) files) s ≡ from_there (reached m files) (onward (reached n files) s)) [
        | ends found ↦ refl
        | leads next ↦ reached-add n m next
      ]

  -- steps to a name, and more steps from there
  reached-then : (n m : ℕ) (q r : QualifiedName) → reached n files q ≡ Some r → reached (n + m) files q ≡ reached m files r
  reached-then n m q r to = reached-add n m q ∙ ap (from_there (reached m files)) to

  -- where so many steps from a name do not end, a walk of no more steps does not end
  walk-reached : (n k : ℕ) (q r : QualifiedName) → n ≤ k → reached k files q ≡ Some r → walk n files q ≡ cycle
  walk-reached zero k q r le to = refl
  walk-reached (suc n) zero q r le to = absurd (omega arith)
  walk-reached (suc n) (suc k) q r le to = elim (step files q) as (λ s. onward (reached k files) s ≡ Some r → arrive (walk n files) s ≡ cycle) [
    | ends found ↦ λ to. absurd (none-some r to)
    | leads next ↦ λ to. walk-reached n k next r (omega arith) to
  ] to

  -- a name on a ring comes back to itself after any number of steps, and some more
  come_back : (q : QualifiedName) → IsOnRing files q → (n : ℕ) → (m : ℕ) × (reached (n + suc m) files q ≡ Some q)
  come_back q (k, ring) zero = let e : zero + suc k ≡ suc k = omega arith in (k, ap (λ j. reached j files q) e ∙ ring)
  come_back q (k, ring) (suc n) =
      let before = come_back q (k, ring) n in
      let e : suc n + suc (before.0 + k) ≡ (n + suc before.0) + suc k = omega arith in
      (before.0 + k, ap (λ j. reached j files q) e ∙ reached-then (n + suc before.0) (suc k) q q before.1 ∙ ring)

  -- what some steps from a name of a ring lead to comes back to itself
  around : (q r : QualifiedName) (n : ℕ) → IsOnRing files q → reached n files q ≡ Some r → IsOnRing files r
  around q r n ring to =
      let back = come_back q ring n in
      let module_path : reached (suc back.0) files r ≡ Some q = sym (reached-then n (suc back.0) q r to) ∙ back.1 in
      let e : suc (back.0 + n) ≡ suc back.0 + n = omega arith in
      (back.0 + n, ap (λ j. reached j files r) e ∙ reached-then (suc back.0) n r q module_path ∙ to)

  -- a name that at most so many steps lead to is reached
  reported : (n : ℕ) (to q : QualifiedName) → IsTrue (leads_to n files to q) → (k : ℕ) × (reached (suc k) files q ≡ Some to)
  reported zero to q is = absurd (false≢true is)
  reported (suc n) to q is = elim (step files q) as (λ s. IsTrue (comes_to (leads_to n files to) to s) → (k : ℕ) × (onward (reached k files) s ≡ Some to)) [
    | ends found ↦ λ is. absurd (false≢true is)
    | leads next ↦ λ is. elim (or_cases (same_name next to) (leads_to n files to next) is) [
      | inl same ↦ (zero, ap Some (same_name-is next to same))
      | inr later ↦ let rest = reported n to next later in (suc rest.0, rest.1)
    ]
  ] is

-- a name on a ring is a cycle
pub rings_are_cycles : RingsAreCycles
unfolding follow
rings_are_cycles files q ring =
    let back = come_back files q ring (suc (import_count files)) in
    walk-reached files (suc (import_count files)) (suc (import_count files) + suc back.0) q q (omega arith) back.1

-- all that a name on a ring leads to is on that ring
pub rings_stay_rings : RingsStayRings
rings_stay_rings files q r n ring to = around files q r n ring to

-- a name that is reported to be on a ring is on one
pub reported_rings_are_rings : ReportedRingsAreRings
unfolding on_ring
reported_rings_are_rings files q is = reported files (import_count files) q q is
