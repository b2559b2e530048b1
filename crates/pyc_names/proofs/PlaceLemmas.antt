-- Places of files by their modules.
use Rattle.std.proofs.Common.{◌≡◌, ℕ, zero, suc, ◌+◌, ◌-◌, ◌<◌, ◌≤◌, Bool, true, false, cond, List, [], ◌∷◌, drop, length, get_or, slice_get, Option, Some, true≢false, refl, sym, ap, ◌∙◌, arith, drop-cons}
use Rattle.std.specs.declared.alloc.Global.{Global}
use Rattle.std.specs.declared.rc.Rc.{Rc}
use Rattle.std.specs.declared.vec.Vec.{Vec}
use Rattle.std.specs.List.{position_from}
use Rattle.std.specs.Map.{lookup}
use Rattle.indexmap.specs.IndexMap.{insert_entry}
use Rattle.pyc_bindings.proofs.PlaceLemmas.{chosen, found_at, place_within}
use Rattle.pyc_names.specs.declared.interface.Interface.{Interface as InterfaceOf}
use Rattle.pyc_names.specs.ModuleName.{same_module}
use Rattle.pyc_names.specs.Interfaces.{Interface, file_of}
use Rattle.pyc_names.specs.InterfaceView.{interface_in, interfaces_in}
use Rattle.pyc_names.proofs.RingLemmas.{same_module-is, same_module-same}

module _ {K V : Type 0} (eq : K → K → Bool) (test : K → Bool) (alike : (x y : K) → eq x y ≡ true → test x ≡ test y) (one : (x y : K) → test x ≡ true → test y ≡ true → eq x y ≡ true) (k : K) (v : V) where
  there : (e : K × V) (es : List (K × V)) (b : Bool) → test k ≡ b → cond b (Some v) (lookup test es) ≡ cond (test k) (Some v) (cond b (Some e.1) (lookup test es))
  there e es true h = ap (λ c. cond c (Some v) (Some e.1)) (sym h)
  there e es false h = ap (λ c. cond c (Some v) (lookup test es)) (sym h)

  none : (e : K × V) (c : Bool) → (c ≡ true → eq k e.0 ≡ true) → eq k e.0 ≡ false → Some e.1 ≡ cond c (Some v) (Some e.1)
  none e false same apart = refl
  none e true same apart = absurd (true≢false (sym (same refl) ∙ apart))

  other : (e : K × V) (es : List (K × V)) (b : Bool) → test e.0 ≡ b → eq k e.0 ≡ false → lookup test (insert_entry eq es k v) ≡ cond (test k) (Some v) (lookup test es)
      → cond b (Some e.1) (lookup test (insert_entry eq es k v)) ≡ cond (test k) (Some v) (cond b (Some e.1) (lookup test es))
  other e es false h apart next = next
  other e es true h apart next = none e (test k) (λ g. one k e.0 g h) apart

  either : (e : K × V) (es : List (K × V)) (b : Bool) → eq k e.0 ≡ b → lookup test (insert_entry eq es k v) ≡ cond (test k) (Some v) (lookup test es)
      → lookup test (cond b ((e.0, v) ∷ es) (e ∷ insert_entry eq es k v)) ≡ cond (test k) (Some v) (cond (test e.0) (Some e.1) (lookup test es))
  either e es true h next = there e es (test e.0) (alike k e.0 h)
  either e es false h next = other e es (test e.0) refl h next

  -- a test that equal keys pass alike finds what was put in, or what was there
  lookup-insert : (es : List (K × V)) → lookup test (insert_entry eq es k v) ≡ cond (test k) (Some v) (lookup test es)
  lookup-insert [] = refl
  lookup-insert (e ∷ es) = either e es (eq k e.0) refl (lookup-insert es)

-- the index of the file that each module is, one file more
pub place_more : (m : List (List ℕ)) (files : List (Rc InterfaceOf Global)) (left : ℕ) (file : Rc InterfaceOf Global) (old new : List (Vec (List ℕ) Global × ℕ)) (key : Vec (List ℕ) Global)
    → 0 < left → left ≤ length files → file ≡ get_or files (left - 1) file → key.items ≡ (interface_in file.value).name
    → new ≡ insert_entry (λ x y. same_module x.items y.items) old key (left - 1)
    → lookup (λ parts. same_module m parts.items) old ≡ position_from (λ f. same_module m f.name) left (interfaces_in (drop left files))
    → lookup (λ parts. same_module m parts.items) new ≡ position_from (λ f. same_module m f.name) (left - 1) (interfaces_in (drop (left - 1) files))
place_more m files left file old new key some within is named put before =
    let test : Vec (List ℕ) Global → Bool = λ parts. same_module m parts.items in
    let t : Interface → Bool = λ f. same_module m f.name in
    let below : left - 1 < length files = omega arith in
    let next : suc (left - 1) ≡ left = omega arith in
    let onward : left - 1 + 1 ≡ left = omega arith in
    let first : drop (left - 1) files ≡ file ∷ drop left files = drop-cons files (left - 1) file below ∙ ap (λ x. x ∷ drop (suc (left - 1)) files) (sym is) ∙ ap (λ n. file ∷ drop n files) next in
    let found = lookup-insert (λ x y. same_module x.items y.items) test (λ x y h. ap (same_module m) (same_module-is x.items y.items h))
    (λ x y g h. same_module-same x.items y.items (sym (same_module-is m x.items g) ∙ same_module-is m y.items h)) key (left - 1) old in
    ap (lookup test) put ∙ found ∙ ap (λ n. cond (same_module m n) (Some (left - 1)) (lookup test old)) named
    ∙ ap (cond (t (interface_in file.value)) (Some (left - 1))) (before ∙ ap (λ n. position_from t n (interfaces_in (drop left files))) (sym onward))
    ∙ ap (λ l. position_from t (left - 1) (interfaces_in l)) (sym first)

length-interfaces : (files : List (Rc InterfaceOf Global)) → length (interfaces_in files) ≡ length files
length-interfaces [] = refl
length-interfaces (f ∷ files) = ap suc (length-interfaces files)

-- the source of a file is the source at its place
pub source_at : (files : List (Rc InterfaceOf Global)) (i : ℕ) (file : Rc InterfaceOf Global) → i < length files → file ≡ get_or files i file → Some (interface_in file.value) ≡ slice_get (interfaces_in files) i
source_at [] i file within is = absurd (omega arith)
source_at (f ∷ files) zero file within is = ap (λ (x : Rc InterfaceOf Global). Some (interface_in x.value)) is
source_at (f ∷ files) (suc i) file within is = let below : i < length files = omega arith in source_at files i file below is

module _ (files : List (Rc InterfaceOf Global)) (m : List (List ℕ)) where
  -- the place of a module is within the files
  pub module_within : (i : ℕ) → position_from (λ (f : Interface). same_module m f.name) 0 (interfaces_in files) ≡ Some i → i < length files
  module_within i h =
      let below : i < 0 + length (interfaces_in files) = place_within (λ (f : Interface). same_module m f.name) 0 i (interfaces_in files) h in
      omega (arith, length-interfaces files)

  -- the file of a module is the one at its place
  pub module_at : (o : Option ℕ) → o ≡ position_from (λ (f : Interface). same_module m f.name) 0 (interfaces_in files) → chosen o (interfaces_in files) ≡ file_of (interfaces_in files) m
  module_at o h = ap (λ p. chosen p (interfaces_in files)) h ∙ sym (found_at (λ (f : Interface). same_module m f.name) [] (interfaces_in files))
