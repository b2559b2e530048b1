-- The files that are taken: how a check finds them among those that are held, and what holds of both.
use Rattle.std.proofs.Common.{◌≡◌, ℕ, zero, suc, ◌+◌, ◌<◌, ◌⊎◌, inl, inr, ⊎_elim, Bool, true, false, cond, not, ◌&&◌, ◌||◌, true≢false, List, [], ◌∷◌, ◌++◌, length, take, filter, get_or, slice_index_or, bytes_eq, string_bytes, string_eq, Contains, Result, Ok, Err, IfOk, append-nil, refl, sym, ap, ◌∙◌, arith}
use Rattle.std.proofs.lemmas.Cmp.{nat_list_cmp_total, tied_itself}
use Rattle.std.proofs.lemmas.List.{take_more, map-append, length-map, get_or-map}
use Rattle.std.proofs.lemmas.List.Elements.{All-contains, All-contains_itself, All-filter, All-from_recursion, Contains-append_right, filter-append, filter_agree}
use Rattle.std.proofs.lemmas.List.Folds.{list_any-append, list_any_at}
use Rattle.std.proofs.lemmas.Map.Keys.{sorted_head, sorted_tail}
use Rattle.std.proofs.lemmas.Map.Text.{hash_set_updates_text}
use Rattle.std.proofs.lemmas.Slice.Eq.{bytes_eq-Decides}
use Rattle.std.specs.Cmp.Lexicographic.{nat_list_eq_equiv}
use Rattle.std.specs.declared.alloc.Global.{Global}
use Rattle.std.specs.declared.cmp.Ordering.TheVariants.{Less, Equal}
use Rattle.std.specs.declared.rc.Rc.{Rc}
use Rattle.std.specs.declared.string.String.{String}
use Rattle.std.specs.List.{list_any}
use Rattle.indexmap.specs.IndexSet.{IndexSet, Updates, contains_text, index_set_len}
use Rattle.pyc_names.specs.ModuleName.{beside, is_stub_path}
use Rattle.pyc_workspace.specs.declared.file.File.{File as FileOf}
use Rattle.pyc_workspace.specs.Files.{file_in, files_in}
use Rattle.pyc_workspace.specs.Workspace.{File, path_cmp, IsInOrder, has_file, is_stub_of, taken}
use Rattle.pyc_workspace.proofs.WorkspaceLemmas.{in_order-filter}

or_false : (b : Bool) → (b || false) ≡ b
or_false true = refl
or_false false = refl

-- ---- one file more, as plain values

module _ (files : List (Rc FileOf Global)) (i : ℕ) (file : Rc FileOf Global) (within : i < length files) (is : file ≡ get_or files i file) where
  files_more : files_in (take (i + 1) files) ≡ files_in (take i files) ++ file_in file.value ∷ []
  files_more =
      ap files_in (take_more files i file within ∙ ap (λ x. take i files ++ x ∷ []) (sym is)) ∙ map-append (λ (f : Rc FileOf Global). file_in f.value) (take i files) (file ∷ [])

  pub any_more : (test : File → Bool) → list_any test (files_in (take (i + 1) files)) ≡ (list_any test (files_in (take i files)) || test (file_in file.value))
  any_more test =
      ap (list_any test) files_more ∙ list_any-append test (files_in (take i files)) (file_in file.value ∷ [])
      ∙ ap (λ b. list_any test (files_in (take i files)) || b) (or_false (test (file_in file.value)))

  pub none_more : (test : File → Bool) → list_any test (files_in (take i files)) ≡ false → test (file_in file.value) ≡ false → list_any test (files_in (take (i + 1) files)) ≡ false
  none_more test before fails = any_more test ∙ ap (λ b. b || test (file_in file.value)) before ∙ fails

  pub any_at : (test : File → Bool) → test (file_in file.value) ≡ true → list_any test (files_in files) ≡ true
  any_at test passes =
      let plain : Rc FileOf Global → File = λ f. file_in f.value in
      let inside : i < length (files_in files) = omega (arith, length-map files plain, within) in
      list_any_at test (files_in files) i (file_in file.value) inside (ap test (get_or-map plain files i file (file_in file.value) within ∙ ap plain (sym is)) ∙ passes)

  kept_more : (test : File → Bool) (b : Bool) → test (file_in file.value) ≡ b → filter test (files_in (take (i + 1) files)) ≡ filter test (files_in (take i files)) ++ cond b (file_in file.value ∷ []) []
  kept_more test b is_b =
      ap (filter test) files_more ∙ filter-append test (files_in (take i files)) (file_in file.value ∷ [])
      ∙ ap (λ t. filter test (files_in (take i files)) ++ cond t (file_in file.value ∷ []) []) is_b

  -- one that passes is put last
  pub pushed_more : (test : File → Bool) (kept more : List (Rc FileOf Global)) (copy : Rc FileOf Global) → more ≡ kept ++ copy ∷ [] → copy.value ≡ file.value → test (file_in file.value) ≡ true
      → files_in kept ≡ filter test (files_in (take i files)) → files_in more ≡ filter test (files_in (take (i + 1) files))
  pushed_more test kept more copy put same passes before =
      ap files_in put ∙ map-append (λ (f : Rc FileOf Global). file_in f.value) kept (copy ∷ []) ∙ ap (λ f. files_in kept ++ file_in f ∷ []) same
      ∙ ap (λ l. l ++ file_in file.value ∷ []) before ∙ sym (kept_more test true passes)

  -- one that does not is passed over
  pub passed_over : (test : File → Bool) (kept : List (Rc FileOf Global)) → test (file_in file.value) ≡ false
      → files_in kept ≡ filter test (files_in (take i files)) → files_in kept ≡ filter test (files_in (take (i + 1) files))
  passed_over test kept fails before = before ∙ sym (append-nil (filter test (files_in (take i files)))) ∙ sym (kept_more test false fails)

-- ---- the paths beside which a stub stands

either : (here old : Bool) → cond here true old ≡ (old || here)
either true true = refl
either true false = refl
either false true = refl
either false false = refl

module _ (path : List ℕ) (files : List (Rc FileOf Global)) (i : ℕ) (file : Rc FileOf Global) (within : i < length files) (is : file ≡ get_or files i file) where
  -- the path beside a stub is put in
  pub stub_more : {S : Type 0} (old new : IndexSet (String Global) S) (text : String Global) → string_bytes text ≡ beside (file_in file.value).path
      → is_stub_path (file_in file.value).path ≡ true → Updates string_eq old new text true → contains_text old path ≡ list_any (is_stub_of path) (files_in (take i files))
      → contains_text new path ≡ list_any (is_stub_of path) (files_in (take (i + 1) files))
  stub_more old new text written stub updates before =
      let other = beside (file_in file.value).path in
      let same : bytes_eq (string_bytes text) path ≡ bytes_eq path other = ap (λ b. bytes_eq b path) written ∙ nat_list_eq_equiv.symm other path in
      hash_set_updates_text (string_bytes text) old new true updates path ∙ either (bytes_eq (string_bytes text) path) (contains_text old path)
      ∙ ap (λ b. contains_text old path || b) (same ∙ ap (λ b. b && bytes_eq path other) (sym stub))
      ∙ ap (λ b. b || is_stub_of path (file_in file.value)) before ∙ sym (any_more files i file within is (is_stub_of path))

  -- a file that is no stub adds none
  pub no_stub_more : (found : Bool) → is_stub_path (file_in file.value).path ≡ false → found ≡ list_any (is_stub_of path) (files_in (take i files))
      → found ≡ list_any (is_stub_of path) (files_in (take (i + 1) files))
  no_stub_more found none before =
      let other = beside (file_in file.value).path in
      before ∙ sym (or_false (list_any (is_stub_of path) (files_in (take i files))))
      ∙ ap (λ b. list_any (is_stub_of path) (files_in (take i files)) || (b && bytes_eq path other)) (sym none) ∙ sym (any_more files i file within is (is_stub_of path))

-- ---- the files that are taken

none_of : {X : Type 0} (test : X → Bool) (xs : List X) → length xs ≡ 0 → list_any test xs ≡ false
none_of test [] e = refl
none_of test (x ∷ xs) e = absurd (omega (arith, e))

-- no path is among none
pub finds_none : {S : Type 0} (paths : IndexSet (String Global) S) → index_set_len paths ≡ 0 → (path : List ℕ) → contains_text paths path ≡ false
finds_none paths none path = none_of (λ text. bytes_eq path (string_bytes text)) paths.keys none

kept_all : (test : File → Bool) → ((file : File) → test file ≡ true) → (files : List File) → filter test files ≡ files
kept_all test all [] = refl
kept_all test all (file ∷ files) = ap (λ b. cond b (file ∷ filter test files) (filter test files)) (all file) ∙ ap (λ l. file ∷ l) (kept_all test all files)

module _ (files : List File) (hidden : List ℕ → Bool) (finds : (path : List ℕ) → hidden path ≡ list_any (is_stub_of path) files) where
  -- those whose paths are not among the ones beside which a stub stands are taken
  pub taken_by : filter (λ file. not (hidden file.path)) files ≡ taken files
  taken_by = filter_agree (λ (file : File). not (hidden file.path)) (λ (file : File). not (list_any (is_stub_of file.path) files)) (λ file. ap not (finds file.path)) files

  -- where there is no such path, all are
  pub taken_all : ((path : List ℕ) → hidden path ≡ false) → files ≡ taken files
  taken_all none = sym (kept_all (λ (file : File). not (list_any (is_stub_of file.path) files)) (λ file. ap not (sym (finds file.path) ∙ none file.path)) files)

-- files that are found are others where these are
pub found_as : {E : Type 0} (r : Result (List File) E) (files others : List File) → files ≡ others → IfOk r (λ found. found ≡ files) → IfOk r (λ found. found ≡ others)
found_as (Ok found) files others same is = is ∙ same
found_as (Err e) files others same is = tt

-- ---- one file among others

first_or_later : {X : Type 0} (x : X) (xs : List X) (y : X) (k : ℕ) → k < length (x ∷ xs) → slice_index_or (x ∷ xs) k y ≡ y → (x ≡ y) ⊎ Contains xs y
first_or_later x xs y zero within is = inl is
first_or_later x xs y (suc k) within is = inr (k, omega arith, is)

pub among_cons : {X : Type 0} (x : X) (xs : List X) (y : X) → Contains (x ∷ xs) y → (x ≡ y) ⊎ Contains xs y
among_cons x xs y among = first_or_later x xs y among.0 among.1 among.2

none_among : {X : Type 0} (y : X) → Contains [] y → ⊥
none_among y among = omega (arith, among.1)

-- what passes a test stays
stays : {X : Type 0} (test : X → Bool) (xs : List X) (y : X) → test y ≡ true → Contains xs y → Contains (filter test xs) y
stays test [] y passes among = absurd (none_among y among)
stays test (x ∷ xs) y passes among = elim (test x) as (λ b. test x ≡ b → Contains (cond b (x ∷ filter test xs) (filter test xs)) y) [
  | true ↦ λ e. ⊎_elim (λ here. (0, omega arith, here)) (λ later. Contains-append_right (x ∷ []) (filter test xs) y (stays test xs y passes later)) (among_cons x xs y among)
  | false ↦ λ e. ⊎_elim (λ here. absurd (true≢false (sym passes ∙ ap test (sym here) ∙ e))) (λ later. stays test xs y passes later) (among_cons x xs y among)
] refl

-- the first of files in order stands once
stands_first : (first : File) (files : List File) (file : File) → IsInOrder (first ∷ files) → Contains files file → first.path ≡ file.path → ⊥
stands_first first files file sorted among same =
    let lower = All-contains (λ (later : File). path_cmp first.path later.path ≡ Less) files file
    (All-from_recursion (λ (later : File). path_cmp first.path later.path ≡ Less) files (sorted_head (λ (a : File) (b : File). path_cmp a.path b.path) first files sorted)) among in
    let equal = ap (path_cmp first.path) (sym same) ∙ tied_itself nat_list_cmp_total first.path in
    let clash : Less ≡ Equal = sym lower ∙ equal in
    cc

-- each path stands once among files in order
pub one_of_path : (files : List File) (file other : File) → IsInOrder files → Contains files file → Contains files other → file.path ≡ other.path → file ≡ other
one_of_path [] file other sorted among beside_it same = absurd (none_among file among)
one_of_path (first ∷ files) file other sorted among also same = ⊎_elim
    (λ here. ⊎_elim (λ too. sym here ∙ too) (λ later. absurd (stands_first first files other sorted later (ap (λ (f : File). f.path) here ∙ same))) (among_cons first files other also))
    (λ later. ⊎_elim (λ here. absurd (stands_first first files file sorted later (ap (λ (f : File). f.path) here ∙ sym same)))
    (λ too. one_of_path files file other (sorted_tail (λ (a : File) (b : File). path_cmp a.path b.path) first files sorted) later too same) (among_cons first files other also))
    (among_cons first files file among)

-- ---- what holds of files that are taken and of those that are held

and_false : (b : Bool) → (b && false) ≡ false
and_false true = refl
and_false false = refl

of_the_path : (file : File) (kept : List File) (path : List ℕ) (here there any : Bool) → bytes_eq file.path path ≡ true → here ≡ there → has_file kept path ≡ (any && not there)
    → has_file (cond (not here) (file ∷ kept) kept) path ≡ not there
of_the_path file kept path true there any is same rest = rest ∙ ap (λ b. any && not b) (sym same) ∙ and_false any ∙ ap not same
of_the_path file kept path false there any is same rest = ap (λ b. b || has_file kept path) is ∙ ap not same

of_another : (file : File) (kept : List File) (path : List ℕ) (here answer : Bool) → bytes_eq file.path path ≡ false → has_file kept path ≡ answer
    → has_file (cond (not here) (file ∷ kept) kept) path ≡ answer
of_another file kept path true answer other rest = rest
of_another file kept path false answer other rest = ap (λ b. b || has_file kept path) other ∙ rest

-- whether there is a file of a path among those that a test on paths does not leave out
one_kept : (left_out : List ℕ → Bool) (path : List ℕ) (files : List File)
    → has_file (filter (λ file. not (left_out file.path)) files) path ≡ (has_file files path && not (left_out path))
one_kept left_out path [] = refl
one_kept left_out path (file ∷ files) =
    let kept : List File = filter (λ (f : File). not (left_out f.path)) files in
    let rest : has_file kept path ≡ (has_file files path && not (left_out path)) = one_kept left_out path files in
    elim (bytes_eq file.path path) as (λ b. bytes_eq file.path path ≡ b
    → has_file (cond (not (left_out file.path)) (file ∷ kept) kept) path ≡ ((b || has_file files path) && not (left_out path))) [
      | true ↦ λ same. of_the_path file kept path (left_out file.path) (left_out path) (has_file files path) same (ap left_out ((bytes_eq-Decides file.path path).0 same)) rest
      | false ↦ λ other. of_another file kept path (left_out file.path) (has_file files path && not (left_out path)) other rest
    ] refl

both_true : (a b : Bool) → (a && b) ≡ true → (a ≡ true) × (b ≡ true)
both_true true b e = (refl, e)
both_true false b e = absurd (true≢false (sym e))

module _ (files : List File) where
  -- those of files in order are in order
  pub taken-in_order : IsInOrder files → IsInOrder (taken files)
  taken-in_order sorted = in_order-filter (λ (file : File). not (list_any (is_stub_of file.path) files)) files sorted

  -- one that is taken is held
  pub taken-held : (file : File) → Contains (taken files) file → Contains files file
  taken-held file among =
      let test : File → Bool = λ f. not (list_any (is_stub_of f.path) files) in
      All-contains (Contains files) (filter test files) file (All-filter test (Contains files) files (All-contains_itself files)) among

  -- there is one of a path where one is held and no stub stands beside the path
  pub has_file-taken : (path : List ℕ) → has_file (taken files) path ≡ (has_file files path && not (list_any (is_stub_of path) files))
  has_file-taken path = one_kept (λ p. list_any (is_stub_of p) files) path files

  -- a path that is taken is held
  pub has_file-held : (path : List ℕ) → has_file (taken files) path ≡ true → has_file files path ≡ true
  has_file-held path there = (both_true (has_file files path) (not (list_any (is_stub_of path) files)) (sym (has_file-taken path) ∙ there)).0

  -- a file that is held is taken where its path is
  pub held-taken : (file : File) → Contains files file → has_file (taken files) file.path ≡ true → Contains (taken files) file
  held-taken file among there =
      let open_path = (both_true (has_file files file.path) (not (list_any (is_stub_of file.path) files)) (sym (has_file-taken file.path) ∙ there)).1 in
      stays (λ (f : File). not (list_any (is_stub_of f.path) files)) files file open_path among
