-- A walk by its first step, and what is noted at it.
use Rattle.std.proofs.Common.{◌≡◌, ℕ, suc, ◌||◌, false, if◌then◌else◌, List, [], ◌++◌, sym, ap, ◌∙◌}
use Rattle.pyc_names.specs.Following.{QualifiedName, Referent, Step, ends, leads, step, same_name, arrive, walk, comes_to, leads_to}
use Rattle.pyc_names.specs.Interfaces.{Interface}
use Rattle.pyc_names.specs.Looks.{Look, step_looks, looks_on, walk_looks, looks_on_to, ring_looks}
use Rattle.pyc_names.specs.NotedLooks.{Noted, with_looks}
use Rattle.pyc_names.proofs.NotedLemmas.{with_both}

module _ (files : List Interface) (q : QualifiedName) where
  -- what was noted before a step, then at it, and what is looked at later
  together : (before after : Noted) (later : List Look) → after ≡ with_looks before (step_looks files q)
      → with_looks after later ≡ with_looks before (step_looks files q ++ later)
  together before after later is = ap (λ noted. with_looks noted later) is ∙ with_both before (step_looks files q) later

  module _ (n m : ℕ) (left : n ≡ suc m) where
    -- ---- a walk

    -- a walk whose first step leads on
    pub walk-leads : (next : QualifiedName) → step files q ≡ leads next → walk n files q ≡ walk m files next
    walk-leads next e = ap (λ k. walk k files q) left ∙ ap (arrive (walk m files)) e

    walk_looks-by : (s : Step) → step files q ≡ s → walk_looks n files q ≡ step_looks files q ++ looks_on (walk_looks m files) s
    walk_looks-by s e = ap (λ k. walk_looks k files q) left ∙ ap (λ s. step_looks files q ++ looks_on (walk_looks m files) s) e

    pub walk_looks-leads : (next : QualifiedName) (before after : Noted) → step files q ≡ leads next → after ≡ with_looks before (step_looks files q)
        → with_looks after (walk_looks m files next) ≡ with_looks before (walk_looks n files q)
    walk_looks-leads next before after e is =
        together before after (walk_looks m files next) is ∙ ap (with_looks before) (sym (walk_looks-by (leads next) e))

    -- ---- a ring

    pub leads_to-ends : (to : QualifiedName) (found : Referent) → step files q ≡ ends found → leads_to n files to q ≡ false
    leads_to-ends to found e = ap (λ k. leads_to k files to q) left ∙ ap (comes_to (leads_to m files to) to) e

    -- steps whose first leads to another name than the one that is sought
    pub leads_to-leads : (to next : QualifiedName) → step files q ≡ leads next → false ≡ same_name next to → leads_to n files to q ≡ leads_to m files to next
    leads_to-leads to next e other =
        ap (λ k. leads_to k files to q) left ∙ ap (comes_to (leads_to m files to) to) e ∙ ap (λ b. b || leads_to m files to next) (sym other)

    ring_looks-by : (to : QualifiedName) (s : Step) → step files q ≡ s → ring_looks n files to q ≡ step_looks files q ++ looks_on_to (ring_looks m files to) to s
    ring_looks-by to s e = ap (λ k. ring_looks k files to q) left ∙ ap (λ s. step_looks files q ++ looks_on_to (ring_looks m files to) to s) e

    pub ring_looks-leads : (to next : QualifiedName) (before after : Noted) → step files q ≡ leads next → false ≡ same_name next to
        → after ≡ with_looks before (step_looks files q)
        → with_looks after (ring_looks m files to next) ≡ with_looks before (ring_looks n files to q)
    ring_looks-leads to next before after e other is =
        together before after (ring_looks m files to next) is
        ∙ ap (λ b. with_looks before (step_looks files q ++ (if b then [] else ring_looks m files to next))) other
        ∙ ap (with_looks before) (sym (ring_looks-by to (leads next) e))
