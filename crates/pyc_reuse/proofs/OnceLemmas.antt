-- No unit is examined twice.
use Rattle.std.proofs.Common.{◌≡◌, ℕ, ◌+◌, ◌<◌, ◌≤◌, Bool, true, false, List, [], ◌∷◌, ◌++◌, map, filter, flat_map, Ordering, Less, Equal, if◌then◌else◌, refl, sym, ap, ◌∙◌, subst, arith, ◌⊎◌, inl, inr}
use Rattle.std.proofs.lemmas.Cmp.{nat_list_cmp_total, tied_itself}
use Rattle.std.proofs.lemmas.Map.Keys.{sorted_head, sorted_tail}
use Rattle.std.specs.List.{AllByRecursion}
use Rattle.pyc_body.specs.FileUnits.{FileUnit, UnitId, id_of, number_units}
use Rattle.pyc_iface.specs.declared.options.Options.{Options}
use Rattle.pyc_names.specs.SourceFiles.{SourceFile}
use Rattle.pyc_reuse.specs.Examined.{examined, examined_in, is_examined}
use Rattle.pyc_reuse.proofs.NamingLemmas.{Rising, once, rising_both}
use Rattle.pyc_reuse.specs.ExaminedLaws.{ExaminedOnce}
use Rattle.pyc_units.specs.Units.{Unit}
use Rattle.pyc_units.specs.Units as units
use Rattle.pyc_workspace.proofs.FreshLemmas.{path-of}
use Rattle.pyc_workspace.specs.Fresh.{source_of}
use Rattle.pyc_workspace.specs.Workspace.{File, IsInOrder, path_cmp}

abbrev before : File → File → Ordering
before file later = path_cmp file.path later.path

-- a unit stands below another: its path does, or it is one of the same file with a lower number
abbrev pub Below : UnitId → UnitId → Type 0
Below a b = (path_cmp a.path b.path ≡ Less) ⊎ ((a.path ≡ b.path) × (a.index < b.index))

never_below : (x : UnitId) → Below x x → ⊥
never_below x (inl less) = absurd (cc_less (sym less ∙ tied_itself nat_list_cmp_total x.path))
  where
    cc_less : Less ≡ Equal → ⊥
    cc_less e = cc
never_below x (inr (same, less)) = omega (arith, less)

module _ {A : Type 0} where
  all_where : {P Q : A → Type 0} → ((x : A) → P x → Q x) → (xs : List A) → AllByRecursion P xs → AllByRecursion Q xs
  all_where h [] all = tt
  all_where h (x ∷ xs) all = (h x all.0, all_where h xs all.1)

-- ---- the units of one file

module _ (source : SourceFile) (p : FileUnit → Bool) where
  ids : ℕ → List Unit → List UnitId
  ids from us = map id_of (filter p (number_units source from us))

  FromOn : ℕ → UnitId → Type 0
  FromOn from id = (id.path ≡ source.path) × (from ≤ id.index)

  ids_from : (from : ℕ) (us : List Unit) → AllByRecursion (FromOn from) (ids from us)
  unfolding ids FromOn
  ids_from from [] = tt
  ids_from from (unit ∷ more) = by (p one) refl (all_where later (ids (from + 1) more) (ids_from (from + 1) more))
    where
      one : FileUnit
      one = record { file = source; index = from; unit = unit }

      later : (id : UnitId) → FromOn (from + 1) id → FromOn from id
      later id (same, le) = (same, omega (arith, le))

      by : (b : Bool) → p one ≡ b → AllByRecursion (FromOn from) (ids (from + 1) more) → AllByRecursion (FromOn from) (ids from (unit ∷ more))
      by true e rest = subst (λ l. AllByRecursion (FromOn from) (map id_of l)) (sym (ap (λ b. if b then one ∷ filter p (number_units source (from + 1) more) else filter p (number_units source (from + 1) more)) e)) ((refl, omega arith), rest)
      by false e rest = subst (λ l. AllByRecursion (FromOn from) (map id_of l)) (sym (ap (λ b. if b then one ∷ filter p (number_units source (from + 1) more) else filter p (number_units source (from + 1) more)) e)) rest

  rising_ids : (from : ℕ) (us : List Unit) → Rising Below (ids from us)
  unfolding ids FromOn Rising
  rising_ids from [] = tt
  rising_ids from (unit ∷ more) = by (p one) refl (rising_ids (from + 1) more)
    where
      one : FileUnit
      one = record { file = source; index = from; unit = unit }

      above : (id : UnitId) → FromOn (from + 1) id → Below (id_of one) id
      above id (same, le) = inr (sym same, omega (arith, le))

      by : (b : Bool) → p one ≡ b → Rising Below (ids (from + 1) more) → Rising Below (ids from (unit ∷ more))
      by true e rest = subst (λ l. Rising Below (map id_of l)) (sym (ap (λ b. if b then one ∷ filter p (number_units source (from + 1) more) else filter p (number_units source (from + 1) more)) e)) (all_where above (ids (from + 1) more) (ids_from (from + 1) more), rest)
      by false e rest = subst (λ l. Rising Below (map id_of l)) (sym (ap (λ b. if b then one ∷ filter p (number_units source (from + 1) more) else filter p (number_units source (from + 1) more)) e)) rest

-- ---- the units of all files

module _ (options : Options) (last present : List File) where
  of_path : (file : File) → AllByRecursion (λ id. id.path ≡ file.path) (examined_in options last present file)
  unfolding ids FromOn
  of_path file =
      all_where (λ id h. h.0 ∙ path-of file) (examined_in options last present file)
      (ids_from (source_of file) (is_examined options last present file) 0 (units.file_units (source_of file).outcome))

  rising_file : (file : File) → Rising Below (examined_in options last present file)
  unfolding ids
  rising_file file = rising_ids (source_of file) (is_examined options last present file) 0 (units.file_units (source_of file).outcome)

  all_both : (P : UnitId → Type 0) (xs ys : List UnitId) → AllByRecursion P xs → AllByRecursion P ys → AllByRecursion P (xs ++ ys)
  all_both P [] ys a b = b
  all_both P (x ∷ xs) ys a b = (a.0, all_both P xs ys a.1 b)

  later_files : (path : List ℕ) (files : List File) → AllByRecursion (λ file. path_cmp path file.path ≡ Less) files
      → AllByRecursion (λ id. path_cmp path id.path ≡ Less) (flat_map (examined_in options last present) files)
  later_files path [] all = tt
  later_files path (file ∷ files) all =
      all_both (λ id. path_cmp path id.path ≡ Less) (examined_in options last present file) (flat_map (examined_in options last present) files)
      (all_where (λ id same. ap (path_cmp path) same ∙ all.0) (examined_in options last present file) (of_path file)) (later_files path files all.1)

  rising_files : (files : List File) → IsInOrder files → Rising Below (flat_map (examined_in options last present) files)
  unfolding Rising
  rising_files [] sorted = tt
  rising_files (file ∷ files) sorted =
      let rest = flat_map (examined_in options last present) files in
      let later = later_files file.path files (sorted_head before file files sorted) in
      rising_both Below (examined_in options last present file) rest (rising_file file) (rising_files files (sorted_tail before file files sorted))
      (all_where (λ id same. all_where (λ other less. inl (ap (λ path. path_cmp path other.path) same ∙ less)) rest later) (examined_in options last present file) (of_path file))

  rising : IsInOrder present → Rising Below (examined options last present)
  unfolding examined
  rising sorted = rising_files present sorted

pub examined_once : ExaminedOnce
examined_once options last present i j id sorted a b = once Below never_below (examined options last present) (rising options last present sorted) i j id a b
