-- The number of steps does not matter, from as many on as there are imports.
use Rattle.std.proofs.Common.{◌≡◌, ℕ, zero, suc, ◌+◌, ◌-◌, ◌≤◌, List, Option, None, Some, IsTrue, inl, inr, refl, sym, ap, ◌∙◌, arith}
use Rattle.std.proofs.lemmas.Bool.{cases_Bool, or_cases, or_left, or_right, false≢true, false_from_ne_true}
use Rattle.std.proofs.lemmas.Option.{none-some}
use Rattle.pyc_names.specs.Following.{QualifiedName, Referent, cycle, Step, ends, leads, step, same_name, arrive, walk, follow, import_count, comes_to, leads_to}
use Rattle.pyc_names.specs.Interfaces.{Interface}
use Rattle.pyc_names.specs.Rings.{onward, reached}
use Rattle.pyc_names.specs.CarryLaws.{MoreStepsChangeNothing}
use Rattle.pyc_names.proofs.RingLemmas.{same_name-is}
use Rattle.pyc_names.proofs.ReturnLemmas.{reached-soon}

-- what is found from a name that was reached, if one was
abbrev from_there : (QualifiedName → Option QualifiedName) → Option QualifiedName → Option QualifiedName
from_there further None = None
from_there further (Some q) = further q

-- some steps, no more than so many, lead from a name to another
pub record IsNear (files : List Interface) (n : ℕ) (q r : QualifiedName) : Type 0 where
  pub steps : ℕ
  pub few : suc steps ≤ n
  pub there : reached (suc steps) files q ≡ Some r

module _ (files : List Interface) where
  -- steps, and then more
  reached-add : (n m : ℕ) (q : QualifiedName) → reached (n + m) files q ≡ from_there (reached m files) (reached n files q)
  reached-add zero m q = let e : zero + m ≡ m = omega arith in ap (λ k. reached k files q) e
  reached-add (suc n) m q =
      let e : suc n + m ≡ suc (n + m) = omega arith in
      ap (λ k. reached k files q) e ∙ elim (step files q) as (λ s. onward (reached (n + m) files) s ≡ from_there (reached m files) (onward (reached n files) s)) [
        | ends found ↦ refl
        | leads next ↦ reached-add n m next
      ]

  -- steps to a name, and more steps from there
  pub reached-then : (n m : ℕ) (q r : QualifiedName) → reached n files q ≡ Some r → reached (n + m) files q ≡ reached m files r
  reached-then n m q r to = reached-add n m q ∙ ap (from_there (reached m files)) to

  -- a name that at most so many steps lead to is reached by them
  told : (n : ℕ) (to q : QualifiedName) → IsTrue (leads_to n files to q) → IsNear files n q to
  told zero to q is = absurd (false≢true is)
  told (suc n) to q is = elim (step files q) as (λ s. step files q ≡ s → IsTrue (comes_to (leads_to n files to) to s) → IsNear files (suc n) q to) [
    | ends found ↦ λ e is. absurd (false≢true is)
    | leads next ↦ λ e is. elim (or_cases (same_name next to) (leads_to n files to next) is) [
      | inl same ↦ record { steps = zero; few = omega arith; there = ap (onward (reached zero files)) e ∙ ap Some (same_name-is next to same) }
      | inr later ↦ let rest = told n to next later in let f = rest.few in record { steps = suc rest.steps; few = omega arith; there = ap (onward (reached (suc rest.steps) files)) e ∙ rest.there }
    ]
  ] refl is

  -- what is reached by some steps, at least one, is near
  pub near : (m : ℕ) (q r : QualifiedName) → reached (suc m) files q ≡ Some r → IsNear files (import_count files) q r
  near m q r to = told (import_count files) r q (reached-soon files m r q to)

  -- ---- leading back

  -- more steps lead where fewer do
  leads_to-more : (n d : ℕ) (to q : QualifiedName) → IsTrue (leads_to n files to q) → IsTrue (leads_to (n + d) files to q)
  leads_to-more zero d to q is = absurd (false≢true is)
  leads_to-more (suc n) d to q is =
      let e : suc n + d ≡ suc (n + d) = omega arith in
      ap (λ k. leads_to k files to q) e ∙ elim (step files q) as (λ s. IsTrue (comes_to (leads_to n files to) to s) → IsTrue (comes_to (leads_to (n + d) files to) to s)) [
        | ends found ↦ λ is. absurd (false≢true is)
        | leads next ↦ λ is. elim (or_cases (same_name next to) (leads_to n files to next) is) [
          | inl same ↦ or_left (same_name next to) (leads_to (n + d) files to next) same
          | inr later ↦ or_right (same_name next to) (leads_to (n + d) files to next) (leads_to-more n d to next later)
        ]
      ] is

  -- steps past as many as there are imports lead to nothing else
  pub leads_to-fuel : (d : ℕ) (to q : QualifiedName) → leads_to (import_count files + d) files to q ≡ leads_to (import_count files) files to q
  leads_to-fuel d to q = elim (cases_Bool (leads_to (import_count files) files to q)) [
    | inl there ↦ leads_to-more (import_count files) d to q there ∙ sym there
    | inr not ↦ false_from_ne_true (leads_to (import_count files + d) files to q) (λ more.
        let at = told (import_count files + d) to q more in
        false≢true (sym not ∙ reached-soon files at.steps to q at.there)) ∙ sym not
  ]

  -- ---- ending

  -- where steps end, a walk of more comes to the same
  walk-ended : (n d : ℕ) (q : QualifiedName) → reached n files q ≡ None → walk (n + d) files q ≡ walk n files q
  walk-ended zero d q over = absurd (none-some q (sym over))
  walk-ended (suc n) d q over =
      let e : suc n + d ≡ suc (n + d) = omega arith in
      ap (λ k. walk k files q) e ∙ elim (step files q) as (λ s. onward (reached n files) s ≡ None → arrive (walk (n + d) files) s ≡ arrive (walk n files) s) [
        | ends found ↦ λ over. refl
        | leads next ↦ λ over. walk-ended n d next over
      ] over

  -- where so many steps do not end, a walk of as many is a cycle
  walk-going : (n : ℕ) (q r : QualifiedName) → reached n files q ≡ Some r → walk n files q ≡ cycle
  walk-going zero q r to = refl
  walk-going (suc n) q r to = elim (step files q) as (λ s. onward (reached n files) s ≡ Some r → arrive (walk n files) s ≡ cycle) [
    | ends found ↦ λ to. absurd (none-some r to)
    | leads next ↦ λ to. walk-going n next r to
  ] to

  -- where a step from a name ends, nothing is reached from it
  nothing_past : (r : QualifiedName) (n : ℕ) (found : Referent) → step files r ≡ ends found → reached (suc n) files r ≡ None
  nothing_past r n found e = ap (onward (reached n files)) e

  -- where one more step than there are imports does not end, a step from what is reached does not end
  leads_on : (q r : QualifiedName) (d : ℕ) (at : QualifiedName) → reached (suc (import_count files)) files q ≡ Some r → reached (suc (import_count files) + d) files q ≡ Some at
      → (next : QualifiedName) × (step files at ≡ leads next)
  leads_on q r d at to here = by (step files at) refl
    where
      by : (s : Step) → step files at ≡ s → (next : QualifiedName) × (step files at ≡ leads next)
      by (leads next) e = (next, e)
      by (ends found) e =
          let n : ℕ = import_count files in
          let as_suc : suc n + d ≡ suc (n + d) = omega arith in
          let soon = near (n + d) q at (sym (ap (λ k. reached k files q) as_suc) ∙ here) in
          let left : suc n ≡ suc soon.steps + suc (n - suc soon.steps) = (let f = soon.few in omega arith) in
          let none : reached (suc n) files q ≡ None =
          ap (λ k. reached k files q) left ∙ reached-then (suc soon.steps) (suc (n - suc soon.steps)) q at soon.there ∙ nothing_past at (n - suc soon.steps) found e in
          absurd (none-some r (sym none ∙ to))

  -- and no number of steps ends
  going : (q r : QualifiedName) → reached (suc (import_count files)) files q ≡ Some r → (d : ℕ) → (at : QualifiedName) × (reached (suc (import_count files) + d) files q ≡ Some at)
  going q r to zero = let e : suc (import_count files) + zero ≡ suc (import_count files) = omega arith in (r, ap (λ k. reached k files q) e ∙ to)
  going q r to (suc d) =
      let before = going q r to d in
      let next = leads_on q r d before.0 to before.1 in
      let more : suc (import_count files) + suc d ≡ (suc (import_count files) + d) + suc zero = omega arith in (
        next.0,
        ap (λ k. reached k files q) more ∙ reached-then (suc (import_count files) + d) (suc zero) q before.0 before.1 ∙ ap (onward (reached zero files)) next.1,
      )

  -- steps past one more than there are imports change nothing
  pub walk-fuel : (d : ℕ) (q : QualifiedName) → walk (suc (import_count files) + d) files q ≡ walk (suc (import_count files)) files q
  walk-fuel d q = by (reached (suc (import_count files)) files q) refl
    where
      by : (o : Option QualifiedName) → reached (suc (import_count files)) files q ≡ o → walk (suc (import_count files) + d) files q ≡ walk (suc (import_count files)) files q
      by None e = walk-ended (suc (import_count files)) d q e
      by (Some r) e =
          let far = going q r e d in
          walk-going (suc (import_count files) + d) q far.0 far.1 ∙ sym (walk-going (suc (import_count files)) q r e)

pub more_steps : MoreStepsChangeNothing
unfolding follow
more_steps files q n le =
    let e : n ≡ suc (import_count files) + (n - suc (import_count files)) = omega arith in
    ap (λ k. walk k files q) e ∙ walk-fuel files (n - suc (import_count files)) q
