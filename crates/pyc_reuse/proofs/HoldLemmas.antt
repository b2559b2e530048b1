-- Rows, as keys get numbers and are let go.
use Rattle.std.proofs.Common.{◌≡◌, ◌∙◌, ℕ, Bool, true, false, ◌||◌, ◌==◌, if◌then◌else◌, List, [], ◌∷◌, ◌++◌, map, Option, None, Some, is_some, refl, sym, ap, true≢false}
use Rattle.std.proofs.Math.Logic.{∥∥₁_elim}
use Rattle.std.proofs.lemmas.Bool.{eq-eqb, eqb-true}
use Rattle.std.proofs.lemmas.List.Folds.{list_any-append}
use Rattle.std.specs.declared.alloc.Global.{Global}
use Rattle.std.specs.declared.rc.Rc.{Rc}
use Rattle.pyc_body.proofs.CheckLemmas.{all_still}
use Rattle.pyc_body.specs.FileUnits.{FileUnit, file_units}
use Rattle.pyc_body.specs.FoundMessages.{checked, found, reads}
use Rattle.pyc_recorder.specs.CheckedView.{Checked, checked_in, messages_of, numbers_in}
use Rattle.pyc_recorder.specs.declared.checked.Checked.{Checked as CheckedOf}
use Rattle.pyc_iface.specs.declared.options.Options.{Options}
use Rattle.pyc_keys.specs.Marks.{is_in}
use Rattle.pyc_keys.specs.Numbering.{Extends, Numbering, only}
use Rattle.pyc_names.specs.SourceFiles.{SourceFile}
use Rattle.pyc_reading.specs.Keys.{Key}
use Rattle.pyc_reuse.specs.declared.file_result.FileResult.{FileResult as FileResultOf}
use Rattle.pyc_reuse.specs.Holding.{HoldsJust}
use Rattle.pyc_reuse.specs.Revision.{FileResult, file_result_among, file_results_among}
use Rattle.pyc_reuse.specs.FileResultView.{reads_in, file_result_in, file_results_in, reported_in}
use Rattle.pyc_reuse.specs.SharedChecks.{checks_of, reads_of}
use Rattle.pyc_workspace.specs.Fresh.{source_of}
use Rattle.pyc_workspace.specs.Workspace.{File}

-- ---- more keys

-- more keys change nothing in checks
pub checks_still : (options : Options) (sources : List SourceFile) (old new : Numbering Key) → Extends old new → (checks : List (Rc CheckedOf Global)) (units : List FileUnit)
    → checks_of old checks ≡ map (checked options sources) units → checks_of new checks ≡ map (checked options sources) units
checks_still options sources old new more checks units is =
    all_still old new more (λ (c : Rc CheckedOf Global). c.value) (λ (u : FileUnit). reads options sources u.file u.unit) (λ (u : FileUnit). found options sources u.file u.unit) checks units is

module _ (options : Options) (files : List File) (old new : Numbering Key) (more : Extends old new) where
  pub file_result_still : (file_result : FileResultOf) (file : File) → file_result_in old file_result ≡ file_result_among options files file → file_result_in new file_result ≡ file_result_among options files file
  file_result_still file_result file is =
      let checks = checks_still options (map source_of files) old new more file_result.checks.items (file_units (source_of file)) (ap (λ (r : FileResult). r.checks) is) in
      let messages = ap (λ (r : FileResult). r.messages) is in
      λ t. record { checks = checks t; messages = messages t }

  pub file_results_still : (file_results : List (Rc FileResultOf Global)) (those : List File) → file_results_in old file_results ≡ map (file_result_among options files) those → file_results_in new file_results ≡ map (file_result_among options files) those
  file_results_still [] [] is = refl
  file_results_still [] (f ∷ fs) is = cc
  file_results_still (r ∷ file_results) [] is = cc
  file_results_still (r ∷ file_results) (f ∷ fs) is =
      let first : file_result_in old r.value ≡ file_result_among options files f = cc in
      let rest : file_results_in old file_results ≡ map (file_result_among options files) fs = cc in
      λ t. file_result_still r.value f first t ∷ file_results_still file_results fs rest t

  pub all_file_results_still : (file_results : List (Rc FileResultOf Global)) → ∥ file_results_in old file_results ≡ file_results_among options files ∥₁ → ∥ file_results_in new file_results ≡ file_results_among options files ∥₁
  unfolding file_results_among
  all_file_results_still file_results are = ∥∥₁_elim are squash₁ (λ is. ∣ file_results_still file_results files is ∣₁)

-- ---- keys that are let go

or_first : (a b : Bool) → a ≡ true → a || b ≡ true
or_first true b h = refl
or_first false b h = absurd (true≢false (sym h))

or_second : (a b : Bool) → b ≡ true → a || b ≡ true
or_second true b h = refl
or_second false b h = h

-- where it is among numbers
in_first : (xs ys : List ℕ) (i : ℕ) → is_in xs i ≡ true → is_in (xs ++ ys) i ≡ true
in_first xs ys i h = list_any-append (λ j. j == i) xs ys ∙ or_first (is_in xs i) (is_in ys i) h

in_second : (xs ys : List ℕ) (i : ℕ) → is_in ys i ≡ true → is_in (xs ++ ys) i ≡ true
in_second xs ys i h = list_any-append (λ j. j == i) xs ys ∙ or_second (is_in xs i) (is_in ys i) h

module _ (held : Numbering Key) (kept : List ℕ) where
  -- numbers that are kept stand for what they did
  numbers_stay : (numbers : List ℕ) → ((i : ℕ) → is_in numbers i ≡ true → is_in kept i ≡ true) → map (only kept held) numbers ≡ map held numbers
  numbers_stay [] h = refl
  numbers_stay (i ∷ is) h =
      let here : only kept held i ≡ held i = ap (λ b. if b then held i else None) (h i (or_first (i == i) (is_in is i) (eq-eqb i i refl))) in
      λ t. here t ∷ numbers_stay is (λ j e. h j (or_second (i == j) (is_in is j) e)) t

  checks_stay : (checks : List (Rc CheckedOf Global)) → ((i : ℕ) → is_in (reads_of checks) i ≡ true → is_in kept i ≡ true) → checks_of (only kept held) checks ≡ checks_of held checks
  checks_stay [] h = refl
  checks_stay (c ∷ cs) h =
      let here = numbers_stay (numbers_in c.value) (λ i e. h i (in_first (numbers_in c.value) (reads_of cs) i e)) in
      λ t. record { reads = here t; messages = messages_of c.value } ∷ checks_stay cs (λ i e. h i (in_second (numbers_in c.value) (reads_of cs) i e)) t

  file_results_stay : (file_results : List (Rc FileResultOf Global)) → ((i : ℕ) → is_in (reads_in file_results) i ≡ true → is_in kept i ≡ true) → file_results_in (only kept held) file_results ≡ file_results_in held file_results
  file_results_stay [] h = refl
  file_results_stay (r ∷ file_results) h =
      let own = r.value.reads.items in
      let here = checks_stay r.value.checks.items (λ i e. h i (in_first own (reads_in file_results) i (ap (λ ns. is_in ns i) r.value.reads_are ∙ e))) in
      λ t. record { checks = here t; messages = reported_in r.value } ∷ file_results_stay file_results (λ i e. h i (in_second own (reads_in file_results) i e)) t

-- rows stay where just the keys that they read are kept
pub file_results_kept : (held : Numbering Key) (file_results : List (Rc FileResultOf Global)) → file_results_in (only (reads_in file_results) held) file_results ≡ file_results_in held file_results
file_results_kept held file_results = file_results_stay held (reads_in file_results) file_results (λ i e. e)

-- ---- just the keys that are read are held

number_held : (held : Numbering Key) (numbers : List ℕ) (keys : List Key) (i : ℕ) → map held numbers ≡ map (λ key. Some key) keys → is_in numbers i ≡ true → is_some (held i) ≡ true
number_held held [] keys i is e = absurd (true≢false (sym e))
number_held held (j ∷ js) [] i is e = cc
number_held held (j ∷ js) (k ∷ ks) i is e =
    let first : held j ≡ Some k = cc in
    let rest : map held js ≡ map (λ key. Some key) ks = cc in
    by (j == i) refl first (number_held held js ks i rest) e
  where
    by : (b : Bool) → (j == i) ≡ b → held j ≡ Some k → (is_in js i ≡ true → is_some (held i) ≡ true) → b || is_in js i ≡ true → is_some (held i) ≡ true
    by true same first later g = ap (λ n. is_some (held n)) (sym (eqb-true j i same)) ∙ ap is_some first
    by false same first later g = later g

either_in : (xs ys : List ℕ) (i : ℕ) (P : Type 0) → (is_in xs i ≡ true → P) → (is_in ys i ≡ true → P) → is_in (xs ++ ys) i ≡ true → P
either_in xs ys i P first second e = by (is_in xs i) refl (sym (list_any-append (λ j. j == i) xs ys) ∙ e)
  where
    by : (b : Bool) → is_in xs i ≡ b → b || is_in ys i ≡ true → P
    by true same g = first same
    by false same g = second g

check_held : (options : Options) (sources : List SourceFile) (held : Numbering Key) (checks : List (Rc CheckedOf Global)) (units : List FileUnit) (i : ℕ)
    → checks_of held checks ≡ map (checked options sources) units → is_in (reads_of checks) i ≡ true → is_some (held i) ≡ true
check_held options sources held [] units i is e = absurd (true≢false (sym e))
check_held options sources held (c ∷ cs) [] i is e = cc
check_held options sources held (c ∷ cs) (u ∷ us) i is e =
    let first : checked_in held c.value ≡ checked options sources u = cc in
    let rest : checks_of held cs ≡ map (checked options sources) us = cc in
    either_in (numbers_in c.value) (reads_of cs) i (is_some (held i) ≡ true)
    (number_held held (numbers_in c.value) (reads options sources u.file u.unit) i (ap (λ (k : Checked). k.reads) first))
    (check_held options sources held cs us i rest) e

file_results_held : (options : Options) (files : List File) (held : Numbering Key) (file_results : List (Rc FileResultOf Global)) (those : List File) (i : ℕ)
    → file_results_in held file_results ≡ map (file_result_among options files) those → is_in (reads_in file_results) i ≡ true → is_some (held i) ≡ true
file_results_held options files held [] those i is e = absurd (true≢false (sym e))
file_results_held options files held (r ∷ file_results) [] i is e = cc
file_results_held options files held (r ∷ file_results) (f ∷ fs) i is e =
    let first : file_result_in held r.value ≡ file_result_among options files f = cc in
    let rest : file_results_in held file_results ≡ map (file_result_among options files) fs = cc in
    either_in r.value.reads.items (reads_in file_results) i (is_some (held i) ≡ true)
    (λ here. check_held options (map source_of files) held r.value.checks.items (file_units (source_of f)) i (ap (λ (x : FileResult). x.checks) first) (ap (λ ns. is_in ns i) (sym r.value.reads_are) ∙ here))
    (file_results_held options files held file_results fs i rest) e

some_where : (b : Bool) (x : Option Key) → (b ≡ true → is_some x ≡ true) → is_some (if b then x else None) ≡ b
some_where true x h = h refl
some_where false x h = refl

-- after the keys that are not read were let go, a number is held just where a row reads it
pub just_held : (options : Options) (files : List File) (held : Numbering Key) (file_results : List (Rc FileResultOf Global)) → file_results_in held file_results ≡ file_results_among options files
    → HoldsJust (only (reads_in file_results) held) (reads_in file_results)
unfolding file_results_among
just_held options files held file_results are i = some_where (is_in (reads_in file_results) i) (held i) (file_results_held options files held file_results files i are)

-- where more keys got numbers, and all that are not read were let go, all is as before
back_at : (b : Bool) (x y : Option Key) → is_some x ≡ b → ((key : Key) → x ≡ Some key → y ≡ Some key) → (if b then y else None) ≡ x
back_at true None y h e = absurd (true≢false (sym h))
back_at true (Some key) y h e = e key refl
back_at false None y h e = refl
back_at false (Some key) y h e = absurd (true≢false h)

pub keys_back : (old now : Numbering Key) (numbers : List ℕ) → Extends old now → HoldsJust old numbers → only numbers now ≡ old
keys_back old now numbers more just = λ t i. back_at (is_in numbers i) (old i) (now i) (just i) (more i) t
