-- Which files stand in the last check as they are, where files are put, taken away and checked.
use Rattle.std.proofs.Common.{◌≡◌, ℕ, zero, suc, ◌<◌, ◌⊎◌, inl, inr, ⊎_elim, Bool, true, false, not, cond, ◌&&◌, bytes_eq, string_bytes, string_eq, List, [], ◌∷◌, length, filter, slice_index_or, Contains, true≢false, refl, sym, ap, subst, ◌∙◌, arith, Some, Result, Ok, Err, OnOk, OnErr}
use Rattle.std.proofs.lemmas.List.Elements.{All-contains, All-contains_itself, All-filter, Contains-append_right, filter_passes}
use Rattle.std.proofs.lemmas.Bool.{cond_both}
use Rattle.std.proofs.lemmas.List.Folds.{Any-from_list_any, list_any_at}
use Rattle.std.proofs.lemmas.Map.Text.{hash_set_updates_text}
use Rattle.std.proofs.lemmas.Slice.Eq.{bytes_eq-Decides}
use Rattle.std.specs.Cmp.Lexicographic.{nat_list_eq_equiv}
use Rattle.std.specs.declared.alloc.Global.{Global}
use Rattle.std.specs.declared.cmp.Ordering.TheVariants.{Less, Equal, Greater}
use Rattle.std.specs.declared.string.String.{String}
use Rattle.std.specs.List.{list_any}
use Rattle.std.specs.Ordering.{match_ordering}
use Rattle.indexmap.specs.IndexSet.{IndexSet, IsUnchanged, Updates}
use Rattle.pyc_iface.specs.declared.options.Options.{Options}
use Rattle.pyc_reuse.specs.declared.last_check.LastCheck.{LastCheck}
use Rattle.pyc_reuse.specs.Examined.{is_unchanged, same_file}
use Rattle.pyc_reuse.specs.Revision.{Revision}
use Rattle.pyc_reuse.specs.RevisionView.{revision_in}
use Rattle.pyc_reuse.specs.RecheckView.{AreKept, is_touched}
use Rattle.pyc_reuse.specs.Reports.{next_revision}
use Rattle.pyc_session.specs.DaemonView.{KeepsUp}
use Rattle.pyc_session.proofs.Turns.{same_bytes}
use Rattle.pyc_workspace.specs.Workspace.{File, has_file, is_stub_of, path_cmp, taken, with_file, without_file}

-- ---- files among others

first_or_later : {X : Type 0} (x : X) (xs : List X) (y : X) (k : ℕ) → k < length (x ∷ xs) → slice_index_or (x ∷ xs) k y ≡ y → (x ≡ y) ⊎ Contains xs y
first_or_later x xs y zero within is = inl is
first_or_later x xs y (suc k) within is = inr (k, omega arith, is)

among_cons : {X : Type 0} (x : X) (xs : List X) (y : X) → Contains (x ∷ xs) y → (x ≡ y) ⊎ Contains xs y
among_cons x xs y among = first_or_later x xs y among.0 among.1 among.2

one_of_both : (first file other : File) (files : List File) → (first ≡ other) ⊎ (Contains files other ⊎ (file ≡ other)) → Contains (first ∷ files) other ⊎ (file ≡ other)
one_of_both first file other files cases =
    ⊎_elim (λ here. inl (0, omega arith, here))
    (λ later. ⊎_elim (λ before. inl (Contains-append_right (first ∷ []) files other before)) (λ new. inr new) later) cases

-- of the files with this one, each is this one or stood there before
with_file-among : (files : List File) (file other : File) → Contains (with_file files file) other → Contains files other ⊎ (file ≡ other)
with_file-among [] file other among = ⊎_elim (λ new. inr new) (λ none. inl none) (among_cons file [] other among)
with_file-among (first ∷ files) file other among =
    elim (path_cmp first.path file.path)
    as (λ order. Contains (match_ordering order (first ∷ with_file files file) (file ∷ files) (file ∷ first ∷ files)) other → Contains (first ∷ files) other ⊎ (file ≡ other)) [
      | Less ↦ λ h.
          one_of_both first file other files (⊎_elim (λ here. inl here) (λ later. inr (with_file-among files file other later)) (among_cons first (with_file files file) other h))
      | Equal ↦ λ h. ⊎_elim (λ new. inr new) (λ later. inl (Contains-append_right (first ∷ []) files other later)) (among_cons file files other h)
      | Greater ↦ λ h. ⊎_elim (λ new. inr new) (λ before. inl before) (among_cons file (first ∷ files) other h)
    ] among

-- of those that pass a test, each stood there before and passes it
filter-among : {X : Type 0} (p : X → Bool) (xs : List X) (y : X) → Contains (filter p xs) y → Contains xs y × (p y ≡ true)
filter-among p xs y among = (
  All-contains (Contains xs) (filter p xs) y (All-filter p (Contains xs) xs (All-contains_itself xs)) among,
  All-contains (λ x. p x ≡ true) (filter p xs) y (filter_passes p xs) among,
)

-- and one that stood there and passes it is among those that do
among-filter : {X : Type 0} (p : X → Bool) (xs : List X) (y : X) → Contains xs y → p y ≡ true → Contains (filter p xs) y
among-filter p [] y among passes = among
among-filter p (x ∷ xs) y among passes =
    let rest = filter p xs in
    ⊎_elim
    (λ here. subst (λ b. Contains (cond b (x ∷ rest) rest) y) (sym (ap p here ∙ passes)) (0, omega arith, here))
    (λ later. cond_both (p x) (x ∷ rest) rest (λ ys. Contains ys y) (λ _. Contains-append_right (x ∷ []) rest y (among-filter p xs y later passes)) (λ _. among-filter p xs y later passes))
    (among_cons x xs y among)

-- ---- paths that were touched

neither : (here there : Bool) → cond here true there ≡ false → (there ≡ false) × (here ≡ false)
neither true there e = absurd (true≢false e)
neither false there e = (e, refl)

another : (here there : Bool) → not here ≡ true → cond here false there ≡ there
another true there e = absurd (true≢false (sym e))
another false there e = refl

-- a path is put among them, after room for it
pub touched-put : {S : Type 0} (old ready new : IndexSet (String Global) S) (path : List ℕ) (text : String Global) → string_bytes text ≡ path → IsUnchanged old ready → Updates string_eq ready new text true
    → (other : List ℕ) → is_touched new other ≡ cond (bytes_eq path other) true (is_touched old other)
touched-put old ready new path text is same updates other =
    hash_set_updates_text (string_bytes text) ready new true updates other
    ∙ ap (λ keys. cond (bytes_eq (string_bytes text) other) true (list_any (λ key. bytes_eq other (string_bytes key)) keys)) same
    ∙ ap (λ bytes. cond (bytes_eq bytes other) true (is_touched old other)) is

module _ {S : Type 0} (last present : List File) (old new : IndexSet (String Global) S) where
  -- a file is put, and its path is touched
  pub kept-put : (file : File) → ((path : List ℕ) → is_touched new path ≡ cond (bytes_eq file.path path) true (is_touched old path))
      → AreKept last present old → AreKept last (with_file present file) new
  kept-put file touched kept other among untouched there =
      let apart = neither (bytes_eq file.path other.path) (is_touched old other.path) (sym (touched other.path) ∙ untouched) in
      ⊎_elim (λ before. kept other before apart.0 there)
      (λ same. absurd (true≢false (sym (same_bytes file.path) ∙ ap (λ (f : File). bytes_eq file.path f.path) same ∙ apart.1)))
      (with_file-among present file other among)

  -- the file of a path is taken away, and the path with it
  pub kept-take : (path : List ℕ) → ((other : List ℕ) → is_touched new other ≡ cond (bytes_eq path other) false (is_touched old other))
      → AreKept last present old → AreKept last (without_file present path) new
  kept-take path touched kept other among untouched there =
      let stays = filter-among (λ (file : File). not (bytes_eq file.path path)) present other among in
      let differs : not (bytes_eq path other.path) ≡ true = ap not (nat_list_eq_equiv.symm path other.path) ∙ stays.1 in
      kept other stays.0 (sym (another (bytes_eq path other.path) (is_touched old other.path) differs) ∙ sym (touched other.path) ∙ untouched) there

-- ---- files that were checked

same_file_itself : (file : File) → same_file file file ≡ true
same_file_itself file = ap (λ b. b && bytes_eq file.bytes file.bytes) (same_bytes file.path) ∙ same_bytes file.bytes

-- a file stands among files as it is
unchanged : (files : List File) (file : File) → Contains files file → is_unchanged files file ≡ true
unfolding is_unchanged
unchanged files file among = list_any_at (same_file file) files among.0 file among.1 (ap (same_file file) among.2 ∙ same_file_itself file)

-- whether no stub stands beside a path
abbrev has_no_stub : List File → List ℕ → Bool
has_no_stub files path = not (list_any (is_stub_of path) files)

-- of files, one whose path is that of a file that is taken is taken too
taken-among : (files : List File) (file : File) → Contains files file → has_file (taken files) file.path ≡ true → Contains (taken files) file
taken-among files file among there =
    let kept = λ (other : File). has_no_stub files other.path in
    let found = Any-from_list_any (λ (other : File). bytes_eq other.path file.path) (taken files) there in
    let alone = (filter-among kept files found.1 (found.0, found.2, found.3)).1 in
    let same = (bytes_eq-Decides found.1.path file.path).0 found.4 in
    among-filter kept files file among (sym (ap (has_no_stub files) same) ∙ alone)

-- where the last check is told otherwise
pub kept-last : {S : Type 0} (before last : Revision) (present : List File) (touched : IndexSet (String Global) S) → last ≡ before → AreKept before.files present touched
    → AreKept last.files present touched
kept-last before last present touched is kept = subst (λ (r : Revision). AreKept r.files present touched) (sym is) kept

-- what holds of all files that are present holds of those that are taken
pub kept-taken : {S : Type 0} (last present checked : List File) (touched : IndexSet (String Global) S) → checked ≡ taken present → AreKept last present touched
    → AreKept last checked touched
kept-taken last present checked touched is kept =
    subst (λ files. AreKept last files touched) (sym is)
    (λ file among. kept file (filter-among (λ (other : File). has_no_stub present other.path) present file among).0)

-- each file that was checked stands among those that were
pub kept-check : {S : Type 0} (present : List File) (touched : IndexSet (String Global) S) → AreKept (taken present) present touched
kept-check present touched file among untouched there = unchanged (taken present) file (taken-among present file among there)

-- after a check, be it completed or refused
pub keeps_after : {S A E : Type 0} (options : Options) (present checked : List File) (touched : IndexSet (String Global) S) (before : Revision) (next : LastCheck) (result : Result A E)
    → before.options ≡ options → checked ≡ taken present → AreKept before.files present touched → OnOk result (revision_in next ≡ next_revision before checked)
    → OnErr result (revision_in next ≡ before) → KeepsUp options present touched (Some next)
keeps_after options present checked touched before next (Ok report) same are kept after stays = record {
  options_are = ap (λ (p : Revision). p.options) after ∙ same;
  kept = subst (λ files. AreKept files present touched) (sym (ap (λ (p : Revision). p.files) after ∙ are)) (kept-check present touched);
}
keeps_after options present checked touched before next (Err error) same are kept after stays = record {
  options_are = ap (λ (p : Revision). p.options) stays ∙ same;
  kept = kept-last before (revision_in next) present touched stays kept;
}
