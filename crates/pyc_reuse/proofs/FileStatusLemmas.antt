-- What the status of a file says.
use Rattle.std.proofs.Common.{◌≡◌, ℕ, ◌+◌, ◌<◌, Bool, true, false, List, [], ◌∷◌, ◌++◌, map, take, length, get_or, Option, None, Some, is_some, filter, if◌then◌else◌, refl, sym, ap, subst, ◌∙◌, arith}
use Rattle.std.proofs.lemmas.List.{get_or-map, length-map, map-append, take_more}
use Rattle.pyc_iface.specs.declared.options.Options.{Options}
use Rattle.pyc_body.specs.FileUnits.{file_units, id_of}
use Rattle.pyc_reuse.proofs.ListLemmas.{any_flag, filter_none, none_of}
use Rattle.pyc_reuse.proofs.PlaceLemmas.{stands, unchanged_place}
use Rattle.pyc_reuse.proofs.UnitLemmas.{examined_unchanged, examined_whole, none_where_alike}
use Rattle.pyc_reuse.specs.Answering.{AreAlike}
use Rattle.pyc_reuse.specs.Examined.{examined_in, reads_anew}
use Rattle.pyc_reuse.specs.Places.{IsPlace, file_at, place_in}
use Rattle.pyc_reuse.specs.FileStatuses.{FileStatus, all, nothing, flagged, status_by_flags, flags_of, is_any, kept_file_status, work_at, work_from, file_status_of}
use Rattle.pyc_workspace.specs.Fresh.{source_of}
use Rattle.pyc_workspace.specs.Workspace.{File}

abbrev form : FileStatus → ℕ
form all = 0
form (nothing place) = 1
form (flagged place flags) = 2

abbrev place_of : FileStatus → ℕ
place_of all = 0
place_of (nothing place) = place
place_of (flagged place flags) = place

abbrev flags_in : FileStatus → List Bool
flags_in all = []
flags_in (nothing place) = []
flags_in (flagged place flags) = flags

module _ (options : Options) (last present : List File) (file : File) where
  abbrev flags : List Bool
  flags = flags_of options last present file

  pub record Keeps (place : ℕ) : Type 0 where
    pub at : place_in last file ≡ Some place
    pub none : is_any (flags_of options last present file) ≡ false

  pub whole_parts : all ≡ file_status_of options last present file → place_in last file ≡ None
  whole_parts = by (place_in last file) refl
    where
      by : (p : Option ℕ) → place_in last file ≡ p → all ≡ work_at options last present file p → place_in last file ≡ None
      by None e h = e
      by (Some place) e h = within (is_any flags) refl
        where
          within : (b : Bool) → is_any flags ≡ b → place_in last file ≡ None
          within true f = let bad : 0 ≡ 2 = ap form (h ∙ ap (λ c. if c then flagged place flags else nothing place) f) in absurd (omega (arith, bad))
          within false f = let bad : 0 ≡ 1 = ap form (h ∙ ap (λ c. if c then flagged place flags else nothing place) f) in absurd (omega (arith, bad))

  pub kept_parts : (place : ℕ) → nothing place ≡ file_status_of options last present file → Keeps place
  kept_parts place = by (place_in last file) refl
    where
      by : (p : Option ℕ) → place_in last file ≡ p → nothing place ≡ work_at options last present file p → Keeps place
      by None e h = let bad : 1 ≡ 0 = ap form h in absurd (omega (arith, bad))
      by (Some other) e h = within (is_any flags) refl
        where
          within : (b : Bool) → is_any flags ≡ b → Keeps place
          within true f = let bad : 1 ≡ 2 = ap form (h ∙ ap (λ c. if c then flagged other flags else nothing other) f) in absurd (omega (arith, bad))
          within false f =
              let same : place ≡ other = ap place_of (h ∙ ap (λ c. if c then flagged other flags else nothing other) f) in
              record { at = e ∙ ap (λ n. Some n) (sym same); none = f }

  pub record Flags (place : ℕ) (found : List Bool) : Type 0 where
    pub at : place_in last file ≡ Some place
    pub flags : found ≡ flags_of options last present file

  pub flagged_parts : (place : ℕ) (found : List Bool) → flagged place found ≡ file_status_of options last present file → Flags place found
  flagged_parts place found = by (place_in last file) refl
    where
      by : (p : Option ℕ) → place_in last file ≡ p → flagged place found ≡ work_at options last present file p → Flags place found
      by None e h = let bad : 2 ≡ 0 = ap form h in absurd (omega (arith, bad))
      by (Some other) e h = within (is_any (flags_of options last present file)) refl
        where
          within : (b : Bool) → is_any (flags_of options last present file) ≡ b → Flags place found
          within false f = let bad : 2 ≡ 1 = ap form (h ∙ ap (λ c. if c then flagged other (flags_of options last present file) else nothing other) f) in absurd (omega (arith, bad))
          within true f =
              let is = h ∙ ap (λ c. if c then flagged other (flags_of options last present file) else nothing other) f in
              record { at = e ∙ ap (λ n. Some n) (sym (ap place_of is)); flags = ap flags_in is }

  -- ---- which units are examined, by the work

  pub whole_examined : all ≡ file_status_of options last present file → examined_in options last present file ≡ map id_of (file_units (source_of file))
  whole_examined h = examined_whole options last present file (sym (unchanged_place last file) ∙ ap is_some (whole_parts h))

  pub nothing_examined : (place : ℕ) → nothing place ≡ file_status_of options last present file → examined_in options last present file ≡ []
  nothing_examined place h =
      let parts = kept_parts place h in
      let anew = reads_anew options last present in
      let units = file_units (source_of file) in
      examined_unchanged options last present file (sym (unchanged_place last file) ∙ ap is_some parts.at)
      ∙ ap (map id_of) (filter_none anew units (sym (any_flag anew units) ∙ parts.none))

  pub flagged_examined : (place : ℕ) (found : List Bool) → flagged place found ≡ file_status_of options last present file
      → examined_in options last present file ≡ map id_of (filter (reads_anew options last present) (file_units (source_of file)))
  flagged_examined place found h =
      examined_unchanged options last present file (sym (unchanged_place last file) ∙ ap is_some (flagged_parts place found h).at)

  -- where all files answer alike, what came of a file that is as it was is kept
  pub kept_where_alike : AreAlike last present → kept_file_status (place_in last file) ≡ file_status_of options last present file
  kept_where_alike same = by (place_in last file)
    where
      by : (p : Option ℕ) → kept_file_status p ≡ work_at options last present file p
      by None = refl
      by (Some place) =
          let none : is_any (flags_of options last present file) ≡ false =
          any_flag (reads_anew options last present) (file_units (source_of file)) ∙ none_of (reads_anew options last present) (none_where_alike options last present same) (file_units (source_of file)) in
          sym (ap (λ c. if c then flagged place (flags_of options last present file) else nothing place) none)

pub kept_file_statuses : (options : Options) (last present : List File) → AreAlike last present → (files : List File)
    → map kept_file_status (map (place_in last) files) ≡ map (file_status_of options last present) files
kept_file_statuses options last present same [] = refl
kept_file_statuses options last present same (file ∷ files) =
    (λ t. kept_where_alike options last present file same t ∷ kept_file_statuses options last present same files t)

-- ---- the work from a place

module _ (options : Options) (last present : List File) where
  -- the place of a file is one of the last files, and what is to be done from there is what is to be done for it
  pub place_is : (file : File) → IsPlace last (place_in last file)
  place_is file = by (place_in last file) refl
    where
      by : (p : Option ℕ) → place_in last file ≡ p → IsPlace last p
      by None e = tt
      by (Some place) e = (stands last file place e).within

  pub from_place : (file : File) → work_from options last present (place_in last file) ≡ file_status_of options last present file
  from_place file = by (place_in last file) refl
    where
      by : (p : Option ℕ) → place_in last file ≡ p → work_from options last present p ≡ work_at options last present file p
      by None e = refl
      by (Some place) e = ap (λ f. status_by_flags place (flags_of options last present f)) (stands last file place e).there

  module _ (files : List File) (places : List (Option ℕ)) (i : ℕ) where
    place_at : places ≡ map (place_in last) files → i < length places → get_or places i None ≡ place_in last (file_at files i)
    place_at are within =
        let many : i < length files = subst (λ n. i < n) (ap length are ∙ length-map files (place_in last)) within in
        ap (λ ps. get_or ps i None) are ∙ get_or-map (place_in last) files i (record { path = []; bytes = [] }) None many

    -- a place in the list of places is one of the last files
    pub place_within : places ≡ map (place_in last) files → i < length places → IsPlace last (get_or places i None)
    place_within are within = subst (IsPlace last) (sym (place_at are within)) (place_is (file_at files i))

    -- one file more
    pub works_more : (file_statuses : List FileStatus) (file_status : FileStatus) → places ≡ map (place_in last) files → i < length places
        → file_statuses ≡ map (file_status_of options last present) (take i files) → file_status ≡ work_from options last present (get_or places i None)
        → file_statuses ++ file_status ∷ [] ≡ map (file_status_of options last present) (take (i + 1) files)
    works_more file_statuses file_status are within before here =
        let many : i < length files = subst (λ n. i < n) (ap length are ∙ length-map files (place_in last)) within in
        let file = file_at files i in
        let more : take (i + 1) files ≡ take i files ++ file ∷ [] = take_more files i (record { path = []; bytes = [] }) many in
        let this : file_status ≡ file_status_of options last present file = here ∙ ap (work_from options last present) (place_at are within) ∙ from_place file in
        (λ t. before t ++ this t ∷ []) ∙ sym (map-append (file_status_of options last present) (take i files) (file ∷ []))
        ∙ ap (map (file_status_of options last present)) (sym more)
