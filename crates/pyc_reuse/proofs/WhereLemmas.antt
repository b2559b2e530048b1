-- Where a unit is examined.
use Rattle.std.proofs.Common.{◌≡◌, Bool, true, false, not, ◌||◌, List, filter, flat_map, refl, sym, ap, ◌∙◌, subst, true≢false}
use Rattle.std.specs.List.{Contains}
use Rattle.std.specs.Prelude.{◌≢◌}
use Rattle.pyc_body.specs.FileUnits.{FileUnit, UnitId, file_units, id_of}
use Rattle.pyc_iface.specs.declared.options.Options.{Options}
use Rattle.pyc_reading.specs.Answers.{Answer}
use Rattle.pyc_reuse.proofs.PlaceLemmas.{same_is, same_itself}
use Rattle.pyc_reuse.specs.Examined.{answers_of, examined, examined_in, is_examined, is_unchanged, reads_among, reads_anew, same_file}
use Rattle.pyc_reuse.proofs.NamingLemmas.{among_all, any_found, any_of, from_image, from_kept, image_in, kept_in, of_one, or_right}
use Rattle.pyc_reuse.specs.ExaminedLaws.{ExaminedJustWhere, IsAffected, IsToBeExamined, by_its_file, by_its_reads}
use Rattle.pyc_known_answers.proofs.EqualityLemmas.{answers_decide}
use Rattle.pyc_known_answers.specs.SameAnswers.{same_answer}
use Rattle.pyc_known_answers.specs.Changes.{is_changed}
use Rattle.pyc_workspace.specs.Fresh.{source_of}
use Rattle.pyc_workspace.specs.Workspace.{File}

-- ---- answers

other_answer : (a b : Answer) → not (same_answer a b) ≡ true → a ≢ b
other_answer a b h is = true≢false (sym h ∙ ap not ((answers_decide a b).1 is))

reported_other : (a b : Answer) → a ≢ b → not (same_answer a b) ≡ true
reported_other a b differ = by (same_answer a b) refl
  where
    by : (c : Bool) → same_answer a b ≡ c → not (same_answer a b) ≡ true
    by true e = absurd (differ ((answers_decide a b).0 e))
    by false e = ap not e

-- ---- files

module _ (last : List File) (file : File) where
  stands : Contains last file → is_unchanged last file ≡ true
  unfolding is_unchanged
  stands c = any_of (same_file file) last file c (same_itself file)

  stood : is_unchanged last file ≡ true → Contains last file
  unfolding is_unchanged
  stood h = let found = any_found (same_file file) last h in subst (λ (f : File). Contains last f) (sym (same_is file found.0 found.2)) found.1

module _ (options : Options) (last present : List File) where
  -- ---- units
  to_examine : (file : File) (unit : FileUnit) → is_examined options last present file unit ≡ true → IsToBeExamined options last present file unit
  to_examine file unit h = by (is_unchanged last file) refl
    where
      by : (b : Bool) → is_unchanged last file ≡ b → IsToBeExamined options last present file unit
      by false e = by_its_file (λ c. true≢false (sym (stands last file c) ∙ e))
      by true e =
          let reads : reads_anew options last present unit ≡ true = sym (ap (λ b. not b || reads_anew options last present unit) e) ∙ h in
          let found = any_found (is_changed (answers_of last) (answers_of present)) (reads_among options last unit) reads in
          by_its_reads (found.0, found.1, other_answer (answers_of last found.0) (answers_of present found.0) found.2)

  examines : (file : File) (unit : FileUnit) → IsToBeExamined options last present file unit → is_examined options last present file unit ≡ true
  examines file unit (by_its_file new) = by (is_unchanged last file) refl
    where
      by : (b : Bool) → is_unchanged last file ≡ b → is_examined options last present file unit ≡ true
      by true e = absurd (new (stood last file e))
      by false e = ap (λ b. not b || reads_anew options last present unit) e
  examines file unit (by_its_reads (key, c, differ)) =
      or_right (not (is_unchanged last file)) (reads_anew options last present unit)
      (any_of (is_changed (answers_of last) (answers_of present)) (reads_among options last unit) key c (reported_other (answers_of last key) (answers_of present key) differ))

  named_so : (id : UnitId) → Contains (examined options last present) id → IsAffected options last present id
  unfolding examined
  named_so id c =
      let of_file = of_one (examined_in options last present) present id c in
      let file = of_file.0 in
      let image = from_image id_of (filter (is_examined options last present file) (file_units (source_of file))) id of_file.2 in
      let unit = image.0 in
      let kept = from_kept (is_examined options last present file) (file_units (source_of file)) unit image.1 in
      record { file = file; unit = unit; is_present = of_file.1; is_of_file = kept.0; named = image.2; examined = to_examine file unit kept.1 }

  is_among : (id : UnitId) → IsAffected options last present id → Contains (examined options last present) id
  unfolding examined
  is_among id so =
      let kept = kept_in (is_examined options last present so.file) (file_units (source_of so.file)) so.unit so.is_of_file (examines so.file so.unit so.examined) in
      let image = image_in id_of (filter (is_examined options last present so.file) (file_units (source_of so.file))) so.unit kept in
      subst (λ (x : UnitId). Contains (flat_map (examined_in options last present) present) x) (sym so.named)
      (among_all (examined_in options last present) present so.file (id_of so.unit) so.is_present image)

pub examined_just_where : ExaminedJustWhere
examined_just_where options last present id = (named_so options last present id, is_among options last present id)
