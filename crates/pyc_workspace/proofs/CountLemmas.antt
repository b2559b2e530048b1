-- How many files name each module, one file more or less.
use Rattle.std.proofs.Common.{◌≡◌, ℕ, ◌+◌, ◌-◌, ◌<◌, ◌≤◌, Bool, true, false, cond, not, ◌&&◌, ◌||◌, bytes_eq, true≢false, if◌then◌else◌, List, [], ◌∷◌, length, set, get_or, insert, remove, count_by, Result, Ok, Err, IsOk, OnOk, OnErr, Option, Some, None, unwrap_or, refl, sym, ap, ◌∙◌, arith}
use Rattle.std.proofs.lemmas.List.{map-set}
use Rattle.std.proofs.lemmas.List.Sums.{sum_by-cons, sum_by-set, sum_by-insert, sum_by-remove}
use Rattle.std.proofs.lemmas.Bool.{lt-ltb, false≢true}
use Rattle.std.specs.declared.alloc.Global.{Global}
use Rattle.std.specs.declared.rc.Rc.{Rc}
use Rattle.std.specs.List.{list_any}
use Rattle.std.specs.Prelude.{nat_lt}
use Rattle.pyc_names.specs.ModuleName.{module_of, same_module, beside}
use Rattle.pyc_workspace.specs.declared.file.File.{File as FileOf}
use Rattle.pyc_workspace.specs.Files.{file_in, files_in}
use Rattle.pyc_workspace.specs.ModuleCounts.{name_count}
use Rattle.pyc_workspace.specs.Workspace.{File, IsPlaceOf, is_module_taken, with_file}
use Rattle.pyc_workspace.proofs.WorkspaceLemmas.{map-insert, with_file-place}

-- ---- one entry

pub one_more : (same : Bool) (old : Option ℕ) (count : ℕ) → (same ≡ true → count ≡ unwrap_or old 0 + 1) → unwrap_or (cond same (Some count) old) 0 ≡ unwrap_or old 0 + (if same then 1 else 0)
one_more true old count is = is refl
one_more false old count is = omega arith

pub none_left : (same : Bool) (old : Option ℕ) (count : ℕ) → count ≤ 1 → (same ≡ true → count ≡ unwrap_or old 0) → unwrap_or (cond same None old) 0 ≡ unwrap_or old 0 - (if same then 1 else 0)
none_left true old count few is = let e = is refl in omega (arith, e)
none_left false old count few is = omega arith

pub one_less : (same : Bool) (old : Option ℕ) (count : ℕ) → (same ≡ true → count ≡ unwrap_or old 0) → unwrap_or (cond same (Some (count - 1)) old) 0 ≡ unwrap_or old 0 - (if same then 1 else 0)
one_less true old count is = ap (λ n. n - 1) (is refl)
one_less false old count is = omega arith

-- ---- results

pub on_ok : {A E : Type 0} {P : Type 0} (r : Result A E) → IsOk r → OnOk r P → P
on_ok (Ok a) h p = p
on_ok (Err e) h p = absurd (false≢true h)

pub to_on_ok : {A E : Type 0} {P : Type 0} (r : Result A E) → P → OnOk r P
to_on_ok (Ok a) p = p
to_on_ok (Err e) p = tt

-- ---- files

-- a file in place of another, as plain ones
pub put_over : (files : List (Rc FileOf Global)) (i : ℕ) (shared : Rc FileOf Global) (file : FileOf) → shared.value ≡ file
    → files_in (set files i shared) ≡ set (files_in files) i (file_in file)
put_over files i shared file is = map-set (λ f. file_in f.value) files i shared ∙ ap (λ f. set (files_in files) i (file_in f)) is

-- a file between others, as plain ones
pub put_between : (files more : List (Rc FileOf Global)) (i : ℕ) (shared : Rc FileOf Global) (file : FileOf) → shared.value ≡ file → more ≡ insert files i shared
    → files_in more ≡ insert (files_in files) i (file_in file)
put_between files more i shared file is put = ap files_in put ∙ map-insert (λ f. file_in f.value) files i shared ∙ ap (λ f. insert (files_in files) i (file_in f)) is

counted : (test : File → Bool) (n : ℕ) (b rest : Bool) → rest ≡ nat_lt 0 n → nat_lt 0 (cond b 1 0 + n) ≡ (b || rest)
counted test n true rest is = lt-ltb 0 (1 + n) (omega arith)
counted test n false rest is = let e : 0 + n ≡ n = omega arith in ap (nat_lt 0) e ∙ sym is

any_counted : (test : File → Bool) (files : List File) → nat_lt 0 (count_by test files) ≡ list_any test files
any_counted test [] = refl
any_counted test (file ∷ files) =
    ap (nat_lt 0) (sum_by-cons (λ (f : File). cond (test f) 1 0) file files) ∙ counted test (count_by test files) (test file) (list_any test files) (sym (any_counted test files))

neither : (a b : Bool) → (a || b) ≡ false → (a ≡ false) × (b ≡ false)
neither true b e = absurd (true≢false e)
neither false b e = (refl, e)

-- where none passes a test, none passes two
none_both : (test other : File → Bool) (files : List File) → list_any test files ≡ false → list_any (λ file. test file && other file) files ≡ false
none_both test other [] none = refl
none_both test other (file ∷ files) none =
    let parts = neither (test file) (list_any test files) none in
    rw (parts.0, none_both test other files parts.1) refl

-- a module that no file names is not taken
pub not_taken : (files : List File) (path : List ℕ) (m : List (List ℕ)) (count : ℕ) → count ≤ 0 → count ≡ name_count files m → m ≡ module_of path → is_module_taken files path ≡ false
not_taken files path m count few is named =
    let none : count ≡ 0 = omega (arith, few) in
    none_both (λ file. same_module (module_of file.path) (module_of path)) (λ file. not (bytes_eq (beside file.path) (beside path))) files
    (sym (any_counted (λ file. same_module (module_of file.path) (module_of path)) files) ∙ ap (λ k. nat_lt 0 (name_count files k)) (sym named) ∙ ap (nat_lt 0) (sym is ∙ none))

pub no_name : (m : List (List ℕ)) → name_count [] m ≡ 0
no_name m = refl

module _ (files : List File) (file : File) (m : List (List ℕ)) where
  -- a file in place of one of its path
  pub count-set : (i : ℕ) → i < length files → (get_or files i file).path ≡ file.path → name_count (set files i file) m ≡ name_count files m
  count-set i within same =
      let sums = sum_by-set (λ (f : File). cond (same_module (module_of f.path) m) 1 0) files i file file within in
      let one = ap {B = ℕ} (λ p. cond (same_module (module_of p) m) 1 0) same in
      omega (arith, sums, one)

  -- a file more
  pub count-insert : (i : ℕ) → name_count (insert files i file) m ≡ name_count files m + (if same_module (module_of file.path) m then 1 else 0)
  count-insert i = sum_by-insert (λ (f : File). cond (same_module (module_of f.path) m) 1 0) files i file

  -- a file less
  pub count-remove : (i : ℕ) (gone : File) → i < length files → gone ≡ get_or files i file → name_count (remove files i) m ≡ name_count files m - (if same_module (module_of gone.path) m then 1 else 0)
  count-remove i gone within is =
      let sums = sum_by-remove (λ (f : File). cond (same_module (module_of f.path) m) 1 0) files i file within in
      let one = ap {B = ℕ} (λ (f : File). cond (same_module (module_of f.path) m) 1 0) is in
      omega (arith, sums, one)

-- a file in place of the one of its path, or all as before
pub count-replaced : {A E : Type 0} (old new : List File) (file : File) (i : ℕ) (m : List (List ℕ)) (r : Result A E) → IsPlaceOf old file.path i → OnOk r (new ≡ with_file old file) → OnErr r (new ≡ old)
    → name_count new m ≡ name_count old m
count-replaced old new file i m (Ok a) place put same = ap (λ fs. name_count fs m) (put ∙ sym (with_file-place old file i place)) ∙ count-set old file m i place.in_range (place.has_path file)
count-replaced old new file i m (Err e) place put same = ap (λ fs. name_count fs m) same
