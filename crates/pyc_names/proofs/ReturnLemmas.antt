-- Coming back: each name of a ring is bound by a from-import of its own, so as many steps as there are from-imports
-- come back.
use Rattle.std.proofs.Common.{◌≡◌, ℕ, zero, suc, ◌+◌, ◌<◌, ◌≤◌, ◌⊎◌, ◌&&◌, ◌||◌, Bool, true, false, cond, not, List, [], ◌∷◌, if◌then◌else◌, Option, None, Some, IsTrue, bytes_eq, find, sum_by, count_by, inl, inr, refl, sym, ap, ap₂, subst, ◌∙◌, arith}
use Rattle.std.proofs.lemmas.Bool.{and_from, and_left, and_parts, and_right, cases_Bool, cond-false, cond-true, or_left, or_right}
use Rattle.std.proofs.lemmas.List.Sums.{sum_by-cons}
use Rattle.std.proofs.lemmas.Option.{none-some, same_Some}
use Rattle.std.proofs.lemmas.Slice.Eq.{slice_eq-Decides, bytes_eq-Decides}
use Rattle.pyc_bindings.specs.Bindings.{Binding, BindingForm, import, import_from, function, class, annotated, assigned, other}
use Rattle.pyc_bindings.specs.Redefinitions.{declaration}
use Rattle.pyc_names.specs.Following.{QualifiedName, Step, ends, leads, no_module, step, same_name, has_module, module_step, file_step, source_step, binding_step, form_step, is_import_from, import_count, comes_to, leads_to, on_ring}
use Rattle.pyc_names.specs.declared.fixed.FixedModule.{FixedModule}
use Rattle.pyc_names.specs.FixedModules.{fixed_module}
use Rattle.pyc_names.specs.ModuleName.{same_module}
use Rattle.pyc_names.specs.Rings.{onward, reached, RingsAreReported}
use Rattle.pyc_names.specs.Interfaces.{Interface, file_of}
use Rattle.pyc_names.proofs.RingLemmas.{same_module-is, same_name-is}

-- ---- equal names

-- a name is the same name as itself
same_name-itself : (a b : QualifiedName) → a ≡ b → IsTrue (same_name a b)
same_name-itself a b e =
    and_from (same_module a.module_path b.module_path) (bytes_eq a.name b.name)
    ((slice_eq-Decides bytes_eq-Decides a.module_path b.module_path (same_module a.module_path b.module_path) refl).1 (ap (λ q. q.module_path) e))
    ((bytes_eq-Decides a.name b.name).1 (ap (λ q. q.name) e))

-- ---- sums

module _ {X : Type 0} (f g : X → ℕ) (le : (x : X) → f x ≤ g x) where
  -- a sum of no larger numbers is no larger
  sum_by-le : (xs : List X) → sum_by f xs ≤ sum_by g xs
  sum_by-le [] = omega arith
  sum_by-le (x ∷ xs) = omega (arith, sum_by-cons f x xs, sum_by-cons g x xs, le x, sum_by-le xs)

  -- a sum of no larger numbers, of which one that is found is smaller, is smaller
  sum_by-lt : (test : X → Bool) (xs : List X) (x : X) → find test xs ≡ Some x → f x < g x → sum_by f xs < sum_by g xs
  sum_by-lt test [] x found lt = absurd (none-some x found)
  sum_by-lt test (y ∷ xs) x found lt = elim (test y) as (λ b. cond b (Some y) (find test xs) ≡ Some x → sum_by f (y ∷ xs) < sum_by g (y ∷ xs)) [
    | true ↦ λ found. let is : x ≡ y = cc in let here : f y < g y = subst (λ z. f z < g z) is lt in omega (arith, sum_by-cons f y xs, sum_by-cons g y xs, sum_by-le xs)
    | false ↦ λ found. omega (arith, sum_by-cons f y xs, sum_by-cons g y xs, le y, sum_by-lt test xs x found lt)
  ] found

-- what is found passes the test
pub find_passes : {X : Type 0} (test : X → Bool) (xs : List X) (x : X) → find test xs ≡ Some x → IsTrue (test x)
find_passes test [] x found = absurd (none-some x found)
find_passes test (y ∷ xs) x found = elim (cases_Bool (test y)) [
  | inl passes ↦ let is : y ≡ x = same_Some y x (sym (cond-true (test y) (Some y) (find test xs) passes) ∙ found) in subst (λ z. IsTrue (test z)) is passes
  | inr fails ↦ find_passes test xs x (sym (cond-false (test y) (Some y) (find test xs) fails) ∙ found)
]

-- a test that passes no more counts no more
one-le : (a b : Bool) → (IsTrue a → IsTrue b) → cond a 1 0 ≤ cond b 1 0
one-le true b more = rw (more refl) (omega arith)
one-le false b more = omega arith

-- ---- the from-imports of the names that may be stepped from

-- the name that a binding of a file binds
abbrev bound_in : Interface → Binding → QualifiedName
bound_in file b = record { module_path = file.name; name = b.name }

-- whether a binding is a from-import of such a name
abbrev is_open : (QualifiedName → Bool) → Interface → Binding → Bool
is_open may file b = may (bound_in file b) && is_import_from b.form

-- how many from-imports of such names stand in files
abbrev open_count : (QualifiedName → Bool) → List Interface → ℕ
open_count may files = sum_by (λ file. count_by (is_open may file) file.bindings) files

-- these names but for one
abbrev without : (QualifiedName → Bool) → QualifiedName → QualifiedName → Bool
without may out q = may q && not (same_name q out)

-- of all names, all from-imports
open_count-all : (files : List Interface) → open_count (λ q. true) files ≡ import_count files
open_count-all [] = refl
open_count-all (file ∷ files) =
    sum_by-cons (λ (file : Interface). count_by (λ b. is_import_from b.form) file.bindings) file files
    ∙ ap (λ n. count_by (λ b. is_import_from b.form) file.bindings + n) (open_count-all files)

module _ (may : QualifiedName → Bool) (out : QualifiedName) where
  -- without a name, no binding counts for more
  one_without-le : (file : Interface) (b : Binding) → cond (is_open (without may out) file b) 1 0 ≤ cond (is_open may file b) 1 0
  one_without-le file b =
      let q : QualifiedName = bound_in file b in
      one-le (is_open (without may out) file b) (is_open may file b)
      (λ yes.
      let parts = and_parts (without may out q) (is_import_from b.form) yes in
      and_from (may q) (is_import_from b.form) (and_parts (may q) (not (same_name q out)) parts.0).0 parts.1)

  -- without the name that a from-import binds, that one counts for less
  one_without-lt : (file : Interface) (b : Binding) → bound_in file b ≡ out → IsTrue (may out) → IsTrue (is_import_from b.form)
      → cond (is_open (without may out) file b) 1 0 < cond (is_open may file b) 1 0
  one_without-lt file b is it imports =
      let less : is_open (without may out) file b ≡ false =
      and_left (without may out (bound_in file b)) (is_import_from b.form) (and_right (may (bound_in file b)) (not (same_name (bound_in file b) out)) (ap not (same_name-itself (bound_in file b) out is))) in
      let more : is_open may file b ≡ true = and_from (may (bound_in file b)) (is_import_from b.form) (ap may is ∙ it) imports in
      rw (less, more) (omega arith)

-- ---- where a name that leads on is imported

-- a name is bound by a from-import: its file, and the declaration there
record IsImported (files : List Interface) (q : QualifiedName) : Type 0 where
  file : Interface
  b : Binding
  is_file : file_of files q.module_path ≡ Some file
  is_declaration : declaration file.bindings q.name ≡ Some b
  is_import : IsTrue (is_import_from b.form)

module _ (files : List Interface) (q next : QualifiedName) where
  -- of the forms of a declaration, only a from-import leads on
  leads_by_form : (file : Interface) (form : BindingForm) → form_step files q file form ≡ leads next → IsTrue (is_import_from form)
  leads_by_form file (import path) e = absurd (cc)
  leads_by_form file (import_from dots path name) e = refl
  leads_by_form file (function head) e = absurd (cc)
  leads_by_form file (class head) e = absurd (cc)
  leads_by_form file (annotated found) e = absurd (cc)
  leads_by_form file (assigned value) e = absurd (cc)
  leads_by_form file other e = absurd (cc)

  -- a name without a declaration does not lead on
  leads_by_binding : (file : Interface) (found : Option Binding) → file_of files q.module_path ≡ Some file → declaration file.bindings q.name ≡ found → binding_step files q file found ≡ leads next → IsImported files q
  leads_by_binding file None is_file is e = absurd (cc)
  leads_by_binding file (Some b) is_file is e = record { file = file; b = b; is_file = is_file; is_declaration = is; is_import = leads_by_form file b.form e }

  -- nor does a name of a file with a fault
  leads_by_source : (file : Interface) (has_fault : Bool) → file_of files q.module_path ≡ Some file → source_step files q file has_fault ≡ leads next → IsImported files q
  leads_by_source file false is_file e = leads_by_binding file (declaration file.bindings q.name) is_file refl e
  leads_by_source file true is_file e = absurd (cc)

  -- nor a name of a module that no file names
  leads_by_file : (found : Option Interface) → file_of files q.module_path ≡ found → file_step files q found ≡ leads next → IsImported files q
  leads_by_file None is e = absurd (cc)
  leads_by_file (Some file) is e = leads_by_source file file.has_fault is e

  -- nor a name of a fixed module
  leads_by_module : (fixed : Option FixedModule) → module_step files q fixed ≡ leads next → IsImported files q
  leads_by_module (Some fixed) e = absurd (cc)
  leads_by_module None e = leads_by_file (file_of files q.module_path) refl e

  -- a name that leads on is bound by a from-import
  leads_by : step files q ≡ leads next → IsImported files q
  unfolding step
  leads_by e = elim (has_module files q.module_path) as (λ there. (if there then module_step files q (fixed_module q.module_path) else ends no_module) ≡ leads next → IsImported files q) [
    | true ↦ λ e. leads_by_module (fixed_module q.module_path) e
    | false ↦ λ e. absurd (cc)
  ] e

-- without a name that leads on, there are fewer from-imports
open_count-lt : (files : List Interface) (may : QualifiedName → Bool) (q : QualifiedName) → IsImported files q → IsTrue (may q) → open_count (without may q) files < open_count may files
open_count-lt files may q at it =
    let count : (QualifiedName → Bool) → Interface → ℕ = λ may file. count_by (is_open may file) file.bindings in
    let one : (QualifiedName → Bool) → Interface → Binding → ℕ = λ may file b. cond (is_open may file b) 1 0 in
    let named : List (List ℕ) → List ℕ → QualifiedName = λ module_path name. record { module_path = module_path; name = name } in
    let module_path : at.file.name ≡ q.module_path = sym (same_module-is q.module_path at.file.name (find_passes (λ file. same_module q.module_path file.name) files at.file at.is_file)) in
    let name : at.b.name ≡ q.name = (bytes_eq-Decides at.b.name q.name).0 (find_passes (λ b. bytes_eq b.name q.name) at.file.bindings at.b at.is_declaration) in
    let is : bound_in at.file at.b ≡ q = ap₂ named module_path name in
    sum_by-lt (count (without may q)) (count may)
    (λ file. sum_by-le (one (without may q) file) (one may file) (one_without-le may q file) file.bindings)
    (λ file. same_module q.module_path file.name) files at.file at.is_file
    (sum_by-lt (one (without may q) at.file) (one may at.file) (one_without-le may q at.file) (λ b. bytes_eq b.name q.name) at.file.bindings at.b at.is_declaration
    (one_without-lt may q at.file at.b is it at.is_import))

-- ---- ways

-- a step leads to a name of which something holds
abbrev ToNext : (QualifiedName → Type 0) → Step → Type 0
ToNext holds (ends found) = ⊥
ToNext holds (leads next) = holds next

module _ (files : List Interface) where
  -- so many steps lead to a name, each from a name that may be stepped from
  abbrev Way : (QualifiedName → Bool) → ℕ → QualifiedName → QualifiedName → Type 0
  Way may zero to q = q ≡ to
  Way may (suc n) to q = IsTrue (may q) × ToNext (Way may n to) (step files q)

  -- some steps lead from a name to another and do not come back to the first
  abbrev Straight : (QualifiedName → Bool) → QualifiedName → QualifiedName → Type 0
  Straight may to q = (n : ℕ) × ToNext (Way (without may q) n to) (step files q)

  -- what is reached has a way there
  way-reached : (n : ℕ) (to q : QualifiedName) → reached n files q ≡ Some to → Way (λ r. true) n to q
  way-reached zero to q is = same_Some q to is
  way-reached (suc n) to q is = (
    refl,
    elim (step files q) as (λ s. onward (reached n files) s ≡ Some to → ToNext (Way (λ r. true) n to) s) [
      | ends found ↦ λ is. none-some to is
      | leads next ↦ λ is. way-reached n to next is
    ] is,
  )

  -- a way steps from a name or does not; where it does, it goes on from there without stepping from that name again
  way-parts : (may : QualifiedName → Bool) (out : QualifiedName) (n : ℕ) (to q : QualifiedName) → Way may n to q → Way (without may out) n to q ⊎ Straight may to out
  way-parts may out zero to q way = inl way
  way-parts may out (suc n) to q way =
      elim (step files q) as (λ s. step files q ≡ s → ToNext (Way may n to) s → (IsTrue (without may out q) × ToNext (Way (without may out) n to) s) ⊎ Straight may to out) [
        | ends found ↦ λ e later. absurd later
        | leads next ↦ λ e later. elim (way-parts may out n to next later) [
          | inl rest ↦ elim (cases_Bool (same_name q out)) [
            | inl same ↦ inr (n, subst (ToNext (Way (without may out) n to)) (sym (sym (ap (step files) (same_name-is q out same)) ∙ e)) rest)
            | inr differs ↦ inl (and_from (may q) (not (same_name q out)) way.0 (ap not differs), rest)
          ]
          | inr ahead ↦ inr ahead
        ]
      ] refl way.1

  -- a way of at least one step can go straight
  straight : (may : QualifiedName → Bool) (n : ℕ) (to q : QualifiedName) → Way may (suc n) to q → Straight may to q
  straight may n to q way = elim (step files q) as (λ s. step files q ≡ s → ToNext (Way may n to) s → Straight may to q) [
    | ends found ↦ λ e later. absurd later
    | leads next ↦ λ e later. elim (way-parts may q n to next later) [
      | inl rest ↦ (n, subst (ToNext (Way (without may q) n to)) (sym e) rest)
      | inr ahead ↦ ahead
    ]
  ] refl way.1

  -- where a way goes straight on from a name, there are fewer from-imports without that name
  straight-lt : (may : QualifiedName → Bool) (to q : QualifiedName) → Straight may to q → IsTrue (may q) → open_count (without may q) files < open_count may files
  straight-lt may to q (n, later) it = elim (step files q) as (λ s. step files q ≡ s → ToNext (Way (without may q) n to) s → open_count (without may q) files < open_count may files) [
    | ends found ↦ λ e later. absurd later
    | leads next ↦ λ e later. open_count-lt files may q (leads_by files q next e) it
  ] refl later

  -- a way needs no more steps than there are from-imports of names that may be stepped from
  short : (k : ℕ) (may : QualifiedName → Bool) (n : ℕ) (to q : QualifiedName) → open_count may files ≤ k → Way may (suc n) to q → IsTrue (leads_to k files to q)
  short zero may n to q le way = let lt = straight-lt may to q (straight may n to q way) way.0 in absurd (omega arith)
  short (suc k) may n to q le way =
      let ahead = straight may n to q way in
      let lt : open_count (without may q) files < open_count may files = straight-lt may to q ahead way.0 in
      elim (step files q) as (λ s. ToNext (Way (without may q) ahead.0 to) s → IsTrue (comes_to (leads_to k files to) to s)) [
        | ends found ↦ λ later. absurd later
        | leads next ↦ λ later. elim (ahead.0) as (λ m. Way (without may q) m to next → IsTrue (same_name next to || leads_to k files to next)) [
          | zero ↦ λ is. or_left (same_name next to) (leads_to k files to next) (same_name-itself next to is)
          | suc m ↦ λ more. or_right (same_name next to) (leads_to k files to next) (short k (without may q) m to next (omega arith) more)
        ] later
      ] ahead.1

  -- what is reached by some steps, at least one, is reached by as many as there are from-imports
  pub reached-soon : (m : ℕ) (to q : QualifiedName) → reached (suc m) files q ≡ Some to → IsTrue (leads_to (import_count files) files to q)
  reached-soon m to q is = short (import_count files) (λ r. true) m to q (let e = open_count-all files in omega arith) (way-reached (suc m) to q is)

-- a name on a ring is reported to be on one
pub rings_are_reported : RingsAreReported
unfolding on_ring
rings_are_reported files q (n, ring) = short files (import_count files) (λ r. true) n q q (let e = open_count-all files in omega arith) (way-reached files (suc n) q q ring)
