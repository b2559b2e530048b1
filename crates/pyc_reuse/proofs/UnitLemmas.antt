-- What comes of units that are examined, and of those that are not.
use Rattle.std.proofs.Common.{◌≡◌, Bool, true, false, not, ◌||◌, List, [], ◌∷◌, map, filter, refl, ap, ◌∙◌, true≢false}
use Rattle.std.proofs.Math.Logic.{∥∥₁_elim}
use Rattle.std.proofs.Props.{props}
use Rattle.std.specs.List.{list_any}
use Rattle.pyc_body.proofs.ReadLemmas.{over_alike, units_have_their_reads}
use Rattle.pyc_body.specs.FileUnits.{FileUnit, file_units, id_of}
use Rattle.pyc_body.specs.FoundLaws.{IsAlike}
use Rattle.pyc_body.specs.FoundMessages.{checked, checked_by}
use Rattle.pyc_recorder.specs.CheckedView.{check_of}
use Rattle.pyc_iface.specs.declared.options.Options.{Options}
use Rattle.pyc_names.specs.Interfaces.{Interface, interface_of}
use Rattle.pyc_names.specs.SourceFiles.{SourceFile}
use Rattle.pyc_reading.specs.Answers.{Answer}
use Rattle.pyc_reading.specs.Frames.{Agree, nothing_asked, one_more}
use Rattle.pyc_reading.specs.Keys.{Key}
use Rattle.pyc_reuse.proofs.InterfaceLemmas.{answer_alike, answer_as}
use Rattle.pyc_reuse.proofs.ListLemmas.{filter_all, map_where, none_of}
use Rattle.pyc_reuse.specs.Answering.{AreAlike, StandFor}
use Rattle.pyc_reuse.specs.Examined.{answers_of, examined_in, is_unchanged, reads_anew}
use Rattle.pyc_known_answers.proofs.EqualityLemmas.{answers_decide}
use Rattle.pyc_known_answers.specs.SameAnswers.{same_answer}
use Rattle.pyc_known_answers.specs.Changes.{is_changed}
use Rattle.pyc_workspace.specs.Fresh.{source_of}
use Rattle.pyc_workspace.specs.Workspace.{File}

-- ---- answers

not_false : (b : Bool) → not b ≡ false → b ≡ true
not_false true h = refl
not_false false h = absurd (true≢false h)

or_parts : (a b : Bool) → a || b ≡ false → (a ≡ false) × (b ≡ false)
or_parts true b h = absurd (true≢false h)
or_parts false b h = (refl, h)

-- where no key has another answer, both agree on all
agree : (before now : Key → Answer) (keys : List Key) → list_any (is_changed before now) keys ≡ false → Agree before now keys
agree before now [] h = nothing_asked
agree before now (key ∷ keys) h =
    let parts = or_parts (is_changed before now key) (list_any (is_changed before now) keys) h in
    one_more ((answers_decide (before key) (now key)).0 (not_false (same_answer (before key) (now key)) parts.0)) (agree before now keys parts.1)

-- an answer that is the same is no other one
same_is_no_change : (before now : Key → Answer) (key : Key) → before key ≡ now key → is_changed before now key ≡ false
same_is_no_change before now key same = ap not ((answers_decide (before key) (now key)).1 same)

-- ---- units

alike_checks : (options : Options) (files others : List SourceFile) (unit : FileUnit) → IsAlike options files others unit.file unit.unit
    → checked options files unit ≡ checked options others unit
alike_checks options files others unit alike = λ t. check_of (alike.1 t) (alike.0 t)

module _ (options : Options) (last present : List File) where
  -- what came of a unit none of whose reads has another answer is what comes of it
  pub kept_check : (unit : FileUnit) → reads_anew options last present unit ≡ false
      → checked options (map source_of last) unit ≡ checked options (map source_of present) unit
  unfolding answers_of
  kept_check unit none =
      alike_checks options (map source_of last) (map source_of present) unit
      (units_have_their_reads options (map source_of last) (map source_of present) unit.file unit.unit (agree (answers_of last) (answers_of present) _ none))

  -- where all files answer alike, no unit reads a key with another answer
  pub none_anew : ((key : Key) → answers_of last key ≡ answers_of present key) → (unit : FileUnit) → reads_anew options last present unit ≡ false
  none_anew same unit = none_of (is_changed (answers_of last) (answers_of present)) (λ key. same_is_no_change (answers_of last) (answers_of present) key (same key)) _

  pub none_where_alike : AreAlike last present → (unit : FileUnit) → reads_anew options last present unit ≡ false
  none_where_alike alike unit = ∥∥₁_elim (answer_alike last present alike) (Prim.hlevel props) (λ same. none_anew same unit)

  -- what comes of a unit over interfaces that answer as the files that are present
  pub check_over : (interfaces : List Interface) (unit : FileUnit) → StandFor interfaces present → checked_by options interfaces unit ≡ checked options (map source_of present) unit
  unfolding answers_of
  check_over interfaces unit alike =
      ∥∥₁_elim (answer_as interfaces present alike) (Prim.hlevel props) (λ same. over_alike options interfaces (map interface_of (map source_of present)) unit same)

  -- the units that are examined of a file that is as it was, and of another
  pub examined_unchanged : (file : File) → is_unchanged last file ≡ true → examined_in options last present file ≡ map id_of (filter (reads_anew options last present) (file_units (source_of file)))
  examined_unchanged file kept = ap (λ b. map id_of (filter (λ unit. not b || reads_anew options last present unit) (file_units (source_of file)))) kept

  pub examined_whole : (file : File) → is_unchanged last file ≡ false → examined_in options last present file ≡ map id_of (file_units (source_of file))
  examined_whole file new =
      ap (λ b. map id_of (filter (λ unit. not b || reads_anew options last present unit) (file_units (source_of file)))) new
      ∙ ap (map id_of) (filter_all (λ unit. true || reads_anew options last present unit) (λ unit. refl) (file_units (source_of file)))

  -- all units of a file none of which is flagged stay
  pub kept_checks : (units : List FileUnit) → list_any (reads_anew options last present) units ≡ false
      → map (checked options (map source_of last)) units ≡ map (checked options (map source_of present)) units
  kept_checks units none = map_where (checked options (map source_of last)) (checked options (map source_of present)) (reads_anew options last present) kept_check units none
