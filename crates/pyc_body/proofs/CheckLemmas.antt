-- Checks of units, as keys get numbers.
use Rattle.std.proofs.Common.{◌≡◌, ◌∙◌, ap, sym, refl, ◌+◌, List, [], ◌∷◌, ◌++◌, map}
use Rattle.std.proofs.lemmas.List.{map-append}
use Rattle.pyc_body.specs.FileUnits.{FileUnit}
use Rattle.pyc_body.specs.FoundMessages.{checked_by}
use Rattle.pyc_iface.specs.Answers.{answer_by}
use Rattle.pyc_iface.specs.declared.options.Options.{Options}
use Rattle.pyc_names.specs.Interfaces.{Interface}
use Rattle.pyc_reading.specs.Readings.{asked, reported}
use Rattle.pyc_units.specs.UnitReadings.{unit_reading}
use Rattle.pyc_recorder.specs.CheckedView.{Checked, check_of, checked_in, messages_of, numbers_in}
use Rattle.pyc_recorder.specs.declared.checked.Checked.{Checked as CheckedOf}
use Rattle.pyc_report.specs.FoundOrder.{in_order}
use Rattle.pyc_keys.proofs.NumberingLemmas.{still_of}
use Rattle.pyc_keys.specs.Numbering.{AreOf, Extends, Numbering}
use Rattle.pyc_reading.specs.Traces.{Trace, with_keys}
use Rattle.pyc_reading.specs.Keys.{Key}
use Rattle.pyc_report.specs.Message.{Message}

-- the check that comes of a trace
pub check_from : (held : Numbering Key) (made : CheckedOf) (trace : Trace) → AreOf held (numbers_in made) trace.keys
    → messages_of made ≡ in_order trace.messages → checked_in held made ≡ check_of trace.keys (in_order trace.messages)
check_from held made trace reads messages = λ t. record { reads = reads t; messages = messages t }

module _ (old new : Numbering Key) (more : Extends old new) where
  -- more keys change nothing
  pub still_checked : (check : CheckedOf) (reads : List Key) (messages : List Message) → checked_in old check ≡ check_of reads messages
      → checked_in new check ≡ check_of reads messages
  still_checked check reads messages is =
      let reported : messages_of check ≡ messages = ap (λ (c : Checked). c.messages) is in
      let keys : AreOf new (numbers_in check) reads =
      still_of old new (numbers_in check) reads more (ap (λ (c : Checked). c.reads) is) in
      λ t. record { reads = keys t; messages = reported t }

  -- nor in many
  pub all_still : {C U : Type 0} (view : C → CheckedOf) (reads : U → List Key) (messages : U → List Message) (checks : List C) (units : List U)
      → map (λ c. checked_in old (view c)) checks ≡ map (λ u. check_of (reads u) (messages u)) units
      → map (λ c. checked_in new (view c)) checks ≡ map (λ u. check_of (reads u) (messages u)) units
  all_still view reads messages [] [] is = refl
  all_still view reads messages [] (u ∷ us) is = cc
  all_still view reads messages (c ∷ cs) [] is = cc
  all_still view reads messages (c ∷ cs) (u ∷ us) is =
      let first : checked_in old (view c) ≡ check_of (reads u) (messages u) = cc in
      let rest : map (λ c. checked_in old (view c)) cs ≡ map (λ u. check_of (reads u) (messages u)) us = cc in
      λ t. still_checked (view c) (reads u) (messages u) first t ∷ all_still view reads messages cs us rest t

  -- one check more
  pub one_check_more : {C U : Type 0} (view : C → CheckedOf) (reads : U → List Key) (messages : U → List Message) (checks : List C) (units : List U) (check : C) (unit : U)
      → map (λ c. checked_in old (view c)) checks ≡ map (λ u. check_of (reads u) (messages u)) units
      → checked_in new (view check) ≡ check_of (reads unit) (messages unit)
      → map (λ c. checked_in new (view c)) (checks ++ check ∷ []) ≡ map (λ u. check_of (reads u) (messages u)) (units ++ unit ∷ [])
  one_check_more view reads messages checks units check unit before here =
      let all = all_still view reads messages checks units before in
      map-append (λ c. checked_in new (view c)) checks (check ∷ [])
      ∙ (λ t. all t ++ here t ∷ [])
      ∙ sym (map-append (λ u. check_of (reads u) (messages u)) units (unit ∷ []))

-- ---- the units of files, one after another

module _ (options : Options) (interfaces : List Interface) where
  abbrev reads_by : FileUnit → List Key
  reads_by unit = with_keys [] (asked (answer_by interfaces) (unit_reading options unit.file unit.unit))

  abbrev found_by : FileUnit → List Message
  found_by unit = in_order (reported (answer_by interfaces) (unit_reading options unit.file unit.unit))

  -- more keys change nothing
  pub checks_still : (old new : Numbering Key) (checks : List CheckedOf) (units : List FileUnit) → Extends old new
      → map (checked_in old) checks ≡ map (checked_by options interfaces) units → map (checked_in new) checks ≡ map (checked_by options interfaces) units
  checks_still old new checks units more is = all_still old new more (λ c. c) reads_by found_by checks units is
