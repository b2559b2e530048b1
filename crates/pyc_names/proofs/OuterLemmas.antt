-- The modules that files name or lie under, one module more.
use Rattle.std.proofs.Common.{◌≡◌, ℕ, zero, suc, ◌+◌, ◌<◌, ◌≤◌, Bool, true, false, ◌&&◌, ◌||◌, List, [], ◌∷◌, ◌++◌, map, take, length, get_or, bytes_eq, if◌then◌else◌, true≢false, inl, inr, refl, sym, ap, ◌∙◌, arith}
use Rattle.std.proofs.lemmas.Bool.{cases_lt, lt-ltb, le-ltb, eq-eqb, ne_eqb}
use Rattle.std.proofs.lemmas.List.{take_more, map-append}
use Rattle.std.proofs.lemmas.List.Folds.{list_any-append}
use Rattle.std.specs.declared.alloc.Global.{Global}
use Rattle.std.specs.declared.rc.Rc.{Rc}
use Rattle.std.specs.List.{list_any}
use Rattle.std.specs.Prelude.{nat_lt, nat_eq}
use Rattle.indexmap.specs.IndexSet.{insert_key}
use Rattle.pyc_names.specs.declared.interface.Interface.{Interface as InterfaceOf}
use Rattle.pyc_names.specs.ModuleName.{same_module}
use Rattle.pyc_names.specs.Presence.{is_within}
use Rattle.pyc_names.proofs.RingLemmas.{same_module-is}
use Rattle.pyc_names.specs.Interfaces.{Interface}
use Rattle.pyc_names.specs.InterfaceView.{interface_in, interfaces_in}

or_false : (b : Bool) → (b || false) ≡ b
or_false true = refl
or_false false = refl

or_assoc : (x y z : Bool) → (x || (y || z)) ≡ ((x || y) || z)
or_assoc true y z = refl
or_assoc false y z = refl

and_assoc : (x y z : Bool) → (x && (y && z)) ≡ ((x && y) && z)
and_assoc true y z = refl
and_assoc false y z = refl

and_false : (b : Bool) → (b && false) ≡ false
and_false true = refl
and_false false = refl

-- ---- a key more

module _ {K : Type 0} (is : K → Bool) (test : K → Bool) (t : Bool) (alike : (x : K) → is x ≡ true → test x ≡ t) where
  here : (x : K) (any : Bool) (b : Bool) → test x ≡ t → t ≡ b → ((test x || any) || t) ≡ (test x || any)
  here x any true same e = rw (same, e) refl
  here x any false same e = rw (same, e) (or_false any)

  step : (x : K) (xs : List K) (b : Bool) → is x ≡ b → (list_any is xs ≡ true → (list_any test xs || t) ≡ list_any test xs) → (b || list_any is xs) ≡ true
      → ((test x || list_any test xs) || t) ≡ (test x || list_any test xs)
  step x xs true e later h = here x (list_any test xs) t (alike x e) refl
  step x xs false e later h = sym (or_assoc (test x) (list_any test xs) t) ∙ ap (λ b. test x || b) (later h)

  -- where one of these is there that passes the test as another does, the other adds nothing
  pub known : (xs : List K) → list_any is xs ≡ true → (list_any test xs || t) ≡ list_any test xs
  known [] h = absurd (true≢false (sym h))
  known (x ∷ xs) h = step x xs (is x) refl (known xs) h

-- a test that equal keys pass alike finds what was put in, or what was there
pub any_inserted : {K : Type 0} (eq : K → K → Bool) (test : K → Bool) (k : K) → ((x : K) → eq k x ≡ true → test x ≡ test k) → (ks : List K)
    → list_any test (insert_key eq ks k) ≡ (list_any test ks || test k)
any_inserted eq test k alike ks = elim (list_any (eq k) ks) as (λ b. list_any (eq k) ks ≡ b → list_any test (if b then ks else ks ++ k ∷ []) ≡ (list_any test ks || test k)) [
  | true ↦ λ h. sym (known (eq k) test (test k) alike ks h)
  | false ↦ λ h. list_any-append test ks (k ∷ []) ∙ ap (λ b. list_any test ks || b) (or_false (test k))
] refl

-- ---- the first parts of a module

both_alike : (a b : ℕ) → nat_eq (suc a) (suc b) ≡ nat_eq a b
both_alike a b = elim (cases_lt a b) [
  | inl lt ↦ ne_eqb (suc a) (suc b) (λ e. omega (arith, e, lt)) ∙ sym (ne_eqb a b (λ e. omega (arith, e, lt)))
  | inr le ↦ elim (cases_lt b a) [
    | inl gt ↦ ne_eqb (suc a) (suc b) (λ e. omega (arith, e, gt)) ∙ sym (ne_eqb a b (λ e. omega (arith, e, gt)))
    | inr ge ↦ eq-eqb (suc a) (suc b) (omega (arith, le, ge)) ∙ sym (eq-eqb a b (omega (arith, le, ge)))
  ]
]

-- a module is the first so many parts of another where the other lies under it and it has so many
pub first_parts : (m parts : List (List ℕ)) (count : ℕ) → count ≤ length parts → same_module m (take count parts) ≡ (is_within m parts && nat_eq (length m) count)
first_parts [] parts zero le = refl
first_parts [] [] (suc count) le = absurd (omega arith)
first_parts [] (part ∷ parts) (suc count) le = sym (ne_eqb 0 (suc count) (λ e. omega (arith, e)))
first_parts (x ∷ m) parts zero le =
    sym (ap (λ b. is_within (x ∷ m) parts && b) (ne_eqb (suc (length m)) 0 (λ e. omega (arith, e))) ∙ and_false (is_within (x ∷ m) parts))
first_parts (x ∷ m) [] (suc count) le = absurd (omega arith)
first_parts (x ∷ m) (part ∷ parts) (suc count) le =
    let below : count ≤ length parts = omega arith in
    ap (λ b. bytes_eq x part && b) (first_parts m parts count below) ∙ and_assoc (bytes_eq x part) (is_within m parts) (nat_eq (length m) count)
    ∙ ap (λ b. (bytes_eq x part && is_within m parts) && b) (sym (both_alike (length m) count))

both_more : (a b : ℕ) → nat_lt (suc a) (suc b + 1) ≡ nat_lt a (b + 1)
both_more a b = elim (cases_lt a (b + 1)) [
  | inl lt ↦ lt-ltb (suc a) (suc b + 1) (omega (arith, lt)) ∙ sym (lt-ltb a (b + 1) lt)
  | inr le ↦ le-ltb (suc a) (suc b + 1) (omega (arith, le)) ∙ sym (le-ltb a (b + 1) le)
]

-- a module that another lies under has no more parts
pub fewer_parts : (m parts : List (List ℕ)) → (is_within m parts && nat_lt (length m) (length parts + 1)) ≡ is_within m parts
fewer_parts [] parts = lt-ltb 0 (length parts + 1) (omega arith)
fewer_parts (x ∷ m) [] = refl
fewer_parts (x ∷ m) (part ∷ parts) =
    sym (and_assoc (bytes_eq x part) (is_within m parts) (nat_lt (suc (length m)) (suc (length parts) + 1)))
    ∙ ap (λ b. bytes_eq x part && (is_within m parts && b)) (both_more (length m) (length parts)) ∙ ap (λ b. bytes_eq x part && b) (fewer_parts m parts)

either : (o w below at more : Bool) → more ≡ (below || at) → ((o || (w && below)) || (w && at)) ≡ (o || (w && more))
either true w below at more e = refl
either false false below at more e = refl
either false true below at more e = sym e

one_more : (n count : ℕ) → nat_lt n (count + 1) ≡ (nat_lt n count || nat_eq n count)
one_more n count = elim (cases_lt n count) [
  | inl lt ↦ rw (lt-ltb n (count + 1) (omega (arith, lt)), lt-ltb n count lt) refl
  | inr le ↦ elim (cases_lt count n) [
    | inl gt ↦ rw (le-ltb n (count + 1) (omega (arith, gt)), le-ltb n count le, ne_eqb n count (λ e. omega (arith, e, gt))) refl
    | inr ge ↦ rw (lt-ltb n (count + 1) (omega (arith, ge)), le-ltb n count le, eq-eqb n count (omega (arith, le, ge))) refl
  ]
]

-- the modules of the first so many parts, one part more
pub prefix_more : (m parts : List (List ℕ)) (count : ℕ) (before old new : Bool) → count ≤ length parts
    → old ≡ (before || (is_within m parts && nat_lt (length m) count)) → new ≡ (old || same_module m (take count parts))
    → new ≡ (before || (is_within m parts && nat_lt (length m) (count + 1)))
prefix_more m parts count before old new le is put =
    put ∙ ap (λ b. old || b) (first_parts m parts count le) ∙ ap (λ b. b || (is_within m parts && nat_eq (length m) count)) is
    ∙ either before (is_within m parts) (nat_lt (length m) count) (nat_eq (length m) count) (nat_lt (length m) (count + 1)) (one_more (length m) count)

-- the modules of all first parts
pub prefixes_all : (m parts : List (List ℕ)) (count : ℕ) (before new : Bool) → count ≡ length parts + 1 → new ≡ (before || (is_within m parts && nat_lt (length m) count))
    → new ≡ (before || is_within m parts)
prefixes_all m parts count before new all is = is ∙ ap (λ n. before || (is_within m parts && nat_lt (length m) n)) all ∙ ap (λ b. before || b) (fewer_parts m parts)

-- ---- a file more

interfaces-append : (files more : List (Rc InterfaceOf Global)) → interfaces_in (files ++ more) ≡ interfaces_in files ++ interfaces_in more
interfaces-append [] more = refl
interfaces-append (file ∷ files) more = ap (λ l. interface_in file.value ∷ l) (interfaces-append files more)

pub file_more : (m : List (List ℕ)) (files : List (Rc InterfaceOf Global)) (i : ℕ) (file : Rc InterfaceOf Global) (parts : List (List ℕ)) (old new : Bool) → i < length files → file ≡ get_or files i file
    → parts ≡ (interface_in file.value).name → old ≡ list_any (is_within m) (map (λ (f : Interface). f.name) (interfaces_in (take i files))) → new ≡ (old || is_within m parts)
    → new ≡ list_any (is_within m) (map (λ (f : Interface). f.name) (interfaces_in (take (i + 1) files)))
file_more m files i file parts old new within is named before put =
    let name : Rc InterfaceOf Global → List (List ℕ) = λ f. (interface_in f.value).name in
    let later : take (i + 1) files ≡ take i files ++ file ∷ [] = take_more files i file within ∙ ap (λ x. take i files ++ x ∷ []) (sym is) in
    let whole : map (λ (f : Interface). f.name) (interfaces_in (take (i + 1) files)) ≡ map (λ (f : Interface). f.name) (interfaces_in (take i files)) ++ name file ∷ [] =
    ap (λ fs. map (λ (f : Interface). f.name) (interfaces_in fs)) later ∙ ap (map (λ (f : Interface). f.name)) (interfaces-append (take i files) (file ∷ []))
    ∙ map-append (λ (f : Interface). f.name) (interfaces_in (take i files)) (interface_in file.value ∷ []) in
    put ∙ ap (λ b. b || is_within m parts) before
    ∙ ap (λ p. list_any (is_within m) (map (λ (f : Interface). f.name) (interfaces_in (take i files))) || is_within m p) named
    ∙ ap (λ b. list_any (is_within m) (map (λ (f : Interface). f.name) (interfaces_in (take i files))) || b) (sym (or_false (is_within m (name file))))
    ∙ sym (list_any-append (is_within m) (map (λ (f : Interface). f.name) (interfaces_in (take i files))) (name file ∷ [])) ∙ ap (list_any (is_within m)) (sym whole)

-- ---- a module more

-- a module that is there already adds nothing
pub module_known : {K : Type 0} (parts_of : K → List (List ℕ)) (m parts : List (List ℕ)) (keys : List K) → list_any (λ k. same_module parts (parts_of k)) keys ≡ true
    → list_any (λ k. same_module m (parts_of k)) keys ≡ (list_any (λ k. same_module m (parts_of k)) keys || same_module m parts)
module_known parts_of m parts keys is =
    sym (known (λ k. same_module parts (parts_of k)) (λ k. same_module m (parts_of k)) (same_module m parts)
    (λ k same. ap (same_module m) (sym (same_module-is parts (parts_of k) same))) keys is)

-- a module that is put in
pub module_more : {K : Type 0} (parts_of : K → List (List ℕ)) (m parts : List (List ℕ)) (old new : List K) (key : K) → parts_of key ≡ parts
    → new ≡ insert_key (λ x y. same_module (parts_of x) (parts_of y)) old key
    → list_any (λ k. same_module m (parts_of k)) new ≡ (list_any (λ k. same_module m (parts_of k)) old || same_module m parts)
module_more parts_of m parts old new key is put =
    ap (list_any (λ k. same_module m (parts_of k))) put
    ∙ any_inserted (λ x y. same_module (parts_of x) (parts_of y)) (λ k. same_module m (parts_of k)) key
    (λ x same. ap (same_module m) (sym (same_module-is (parts_of key) (parts_of x) same))) old
    ∙ ap (λ p. list_any (λ k. same_module m (parts_of k)) old || same_module m p) is
