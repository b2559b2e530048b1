-- The files that are present and were put since the last completed check.
use Rattle.std.proofs.Common.{◌≡◌, ℕ, Bool, true, false, not, cond, bytes_eq, string_bytes, List, [], ◌∷◌, filter, Ordering, Less, Equal, Greater, is_eq, refl, sym, ap, ◌∙◌}
use Rattle.std.proofs.lemmas.Cmp.{nat_list_cmp_total}
use Rattle.std.proofs.lemmas.Map.Keys.{sorted_head, sorted_tail}
use Rattle.std.proofs.lemmas.Map.Text.{is_eq-slice_cmp}
use Rattle.std.specs.Cmp.Lexicographic.{nat_list_eq_equiv}
use Rattle.std.specs.declared.alloc.Global.{Global}
use Rattle.std.specs.declared.string.String.{String}
use Rattle.std.specs.List.{AllByRecursion, list_any}
use Rattle.std.specs.Ordering.{match_ordering, ordering_reverse}
use Rattle.indexmap.specs.IndexSet.{IndexSet, IsEmpty}
use Rattle.pyc_reuse.specs.RecheckView.{is_touched}
use Rattle.pyc_session.proofs.Turns.{same_bytes}
use Rattle.pyc_workspace.specs.Workspace.{File, IsInOrder, path_cmp, with_file, without_file}

abbrev below : File → File → Ordering
below first later = path_cmp first.path later.path

abbrev AllAbove : List ℕ → List File → Type 0
AllAbove path files = AllByRecursion (λ file. path_cmp path file.path ≡ Less) files

-- the files whose paths pass a test
abbrev pub chosen : (List ℕ → Bool) → List File → List File
chosen test files = filter (λ file. test file.path) files

lower_differs : (a b : List ℕ) → path_cmp a b ≡ Less → bytes_eq a b ≡ false
lower_differs a b e = sym (is_eq-slice_cmp a b) ∙ ap is_eq e

lower_back : (a b : List ℕ) → path_cmp a b ≡ Less → path_cmp b a ≡ Greater
lower_back a b e = nat_list_cmp_total.antisymm b a ∙ ap ordering_reverse e

above_chosen : (path : List ℕ) (test : List ℕ → Bool) (files : List File) → AllAbove path files → AllAbove path (chosen test files)
above_chosen path test [] all = tt
above_chosen path test (file ∷ files) all = elim (test file.path) as (λ b. AllAbove path (cond b (file ∷ chosen test files) (chosen test files))) [
  | true ↦ (all.0, above_chosen path test files all.1)
  | false ↦ above_chosen path test files all.1
]

-- a file whose path is below all comes first
first_of_all : (files : List File) (file : File) → AllAbove file.path files → with_file files file ≡ file ∷ files
first_of_all [] file all = refl
first_of_all (first ∷ files) file all =
    ap (λ order. match_ordering order (first ∷ with_file files file) (file ∷ files) (file ∷ first ∷ files)) (lower_back file.path first.path all.0)

module _ (file : File) (old new : List ℕ → Bool) (put : (path : List ℕ) → new path ≡ cond (bytes_eq file.path path) true (old path)) where
  own : new file.path ≡ true
  own = put file.path ∙ ap (λ b. cond b true (old file.path)) (same_bytes file.path)

  another : (path : List ℕ) → bytes_eq file.path path ≡ false → new path ≡ old path
  another path apart = put path ∙ ap (λ b. cond b true (old path)) apart

  above_same : (files : List File) → AllAbove file.path files → chosen new files ≡ chosen old files
  above_same [] all = refl
  above_same (first ∷ files) all =
      ap (λ b. cond b (first ∷ chosen new files) (chosen new files)) (another first.path (lower_differs file.path first.path all.0))
      ∙ ap (λ fs. cond (old first.path) (first ∷ fs) fs) (above_same files all.1)

  with_first : (files : List File) → chosen new (file ∷ files) ≡ file ∷ chosen new files
  with_first files = ap (λ b. cond b (file ∷ chosen new files) (chosen new files)) own

  after_lower : (first : File) (files : List File) (b : Bool) → path_cmp first.path file.path ≡ Less
      → cond b (first ∷ with_file files file) (with_file files file) ≡ with_file (cond b (first ∷ files) files) file
  after_lower first files true e =
      sym (ap (λ order. match_ordering order (first ∷ with_file files file) (file ∷ files) (file ∷ first ∷ files)) e)
  after_lower first files false e = refl

  in_place : (first : File) (files : List File) (b : Bool) → path_cmp first.path file.path ≡ Equal → AllAbove file.path files
      → file ∷ files ≡ with_file (cond b (first ∷ files) files) file
  in_place first files true e all =
      sym (ap (λ order. match_ordering order (first ∷ with_file files file) (file ∷ files) (file ∷ first ∷ files)) e)
  in_place first files false e all = sym (first_of_all files file all)

  -- those that were touched, with a file that is put
  pub chosen-put : (files : List File) → IsInOrder (with_file files file) → chosen new (with_file files file) ≡ with_file (chosen old files) file
  chosen-put [] sorted = with_first []
  chosen-put (first ∷ files) sorted =
      elim (path_cmp first.path file.path)
      as (λ order. path_cmp first.path file.path ≡ order → IsInOrder (match_ordering order (first ∷ with_file files file) (file ∷ files) (file ∷ first ∷ files))
      → chosen new (match_ordering order (first ∷ with_file files file) (file ∷ files) (file ∷ first ∷ files)) ≡ with_file (chosen old (first ∷ files)) file) [
        | Less ↦ λ e s.
            ap (λ b. cond b (first ∷ chosen new (with_file files file)) (chosen new (with_file files file)))
            (another first.path (nat_list_eq_equiv.symm file.path first.path ∙ lower_differs first.path file.path e))
            ∙ ap (λ fs. cond (old first.path) (first ∷ fs) fs) (chosen-put files (sorted_tail below first (with_file files file) s))
            ∙ after_lower first (chosen old files) (old first.path) e
        | Equal ↦ λ e s.
            let above : AllAbove file.path files = sorted_head below file files s in
            with_first files ∙ ap (λ fs. file ∷ fs) (above_same files above)
            ∙ in_place first (chosen old files) (old first.path) e (above_chosen file.path old files above)
        | Greater ↦ λ e s.
            let above : AllAbove file.path (first ∷ files) = sorted_head below file (first ∷ files) s in
            with_first (first ∷ files) ∙ ap (λ fs. file ∷ fs) (above_same (first ∷ files) above)
            ∙ sym (first_of_all (chosen old (first ∷ files)) file (above_chosen file.path old (first ∷ files) above))
      ] refl sorted

module _ (path : List ℕ) (old new : List ℕ → Bool) (taken : (other : List ℕ) → new other ≡ cond (bytes_eq path other) false (old other)) where
  gone : (first : File) (files : List File) (b here : Bool) → here ≡ not (bytes_eq first.path path) → here ≡ false
      → without_file files path ≡ without_file (cond b (first ∷ files) files) path
  gone first files true here is e = ap (λ h. cond h (first ∷ without_file files path) (without_file files path)) (sym (sym is ∙ e))
  gone first files false here is e = refl

  left : (first : File) (files : List File) (b here : Bool) → here ≡ not (bytes_eq first.path path) → here ≡ true
      → cond b (first ∷ without_file files path) (without_file files path) ≡ without_file (cond b (first ∷ files) files) path
  left first files true here is e = ap (λ h. cond h (first ∷ without_file files path) (without_file files path)) (sym (sym is ∙ e))
  left first files false here is e = refl

  differs : (a b : Bool) → a ≡ b → not b ≡ true → a ≡ false
  differs a true e h = cc
  differs a false e h = e

  -- those that were touched, without the file of a path
  pub chosen-take : (files : List File) → chosen new (without_file files path) ≡ without_file (chosen old files) path
  chosen-take [] = refl
  chosen-take (first ∷ files) =
      elim (not (bytes_eq first.path path))
      as (λ here. not (bytes_eq first.path path) ≡ here
      → chosen new (cond here (first ∷ without_file files path) (without_file files path)) ≡ without_file (chosen old (first ∷ files)) path) [
        | true ↦ λ e.
            ap (λ b. cond b (first ∷ chosen new (without_file files path)) (chosen new (without_file files path)))
            (taken first.path
            ∙ ap (λ b. cond b false (old first.path)) (differs (bytes_eq path first.path) (bytes_eq first.path path) (nat_list_eq_equiv.symm path first.path) e))
            ∙ ap (λ fs. cond (old first.path) (first ∷ fs) fs) (chosen-take files)
            ∙ left first (chosen old files) (old first.path) (not (bytes_eq first.path path)) refl e
        | false ↦ λ e. chosen-take files ∙ gone first (chosen old files) (old first.path) (not (bytes_eq first.path path)) refl e
      ] refl

-- none was
pub none_chosen : (files : List File) (test : List ℕ → Bool) → ((path : List ℕ) → test path ≡ false) → chosen test files ≡ []
none_chosen [] test none = refl
none_chosen (first ∷ files) test none = ap (λ b. cond b (first ∷ chosen test files) (chosen test files)) (none first.path) ∙ none_chosen files test none

pub untouched : {S : Type 0} (touched : IndexSet (String Global) S) → IsEmpty touched → (path : List ℕ) → is_touched touched path ≡ false
untouched touched none path = ap (λ keys. list_any (λ key. bytes_eq path (string_bytes key)) keys) none
