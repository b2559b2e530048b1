-- What was asked and reported at a trace where nothing was before, and what depends on that.
use Rattle.std.proofs.Common.{◌≡◌, Bool, true, false, ◌||◌, List, [], ◌∷◌, ◌++◌, if◌then◌else◌, refl, sym, ap, ◌∙◌}
use Rattle.std.specs.List.{list_any}
use Rattle.std.proofs.lemmas.Bool.{false≢true}
use Rattle.pyc_body.specs.FoundLaws.{AlikeAnswersFindAlike, AlikeInterfacesFindAlike, OneListAlone, ReadsAreTheList, UnitsHaveTheirReads}
use Rattle.pyc_body.specs.FileUnits.{FileUnit}
use Rattle.pyc_body.specs.FoundMessages.{checked_by, reads}
use Rattle.pyc_units.specs.UnitReadings.{unit_reading}
use Rattle.pyc_recorder.proofs.ReadListLemmas.{asked_are_the_list, one_list_alone}
use Rattle.pyc_recorder.specs.CheckedView.{check_of}
use Rattle.pyc_keys.specs.KeyEquality.{keys_are}
use Rattle.pyc_report.specs.FoundOrder.{in_order}
use Rattle.pyc_iface.specs.Answers.{answer_by, answer_of}
use Rattle.pyc_iface.specs.declared.options.Options.{Options}
use Rattle.pyc_names.specs.Interfaces.{Interface}
use Rattle.pyc_reading.proofs.RunLemmas.{frame, runs_are_folds}
use Rattle.pyc_reading.specs.Answers.{Answer}
use Rattle.pyc_reading.specs.Traces.{Step, Trace, run, trace_after, with_key, with_keys}
use Rattle.pyc_reading.specs.Frames.{Agree, nothing_asked, one_more}
use Rattle.pyc_reading.specs.Keys.{Key, same_key}
use Rattle.pyc_reading.specs.Readings.{asked, reported}

-- ---- a trace where nothing was before

module _ (r : Step (Unit {0})) (trace after : Trace) (answers : Key → Answer) (u : Unit {0}) (new : trace ≡ record { answers = answers; keys = []; messages = [] })
    (done : run r trace ≡ (u, after)) where
  pub is_after : after ≡ record { answers = answers; keys = with_keys [] (asked answers r); messages = reported answers r }
  is_after =
      sym (ap (λ (found : Unit {0} × Trace). found.1) done) ∙ ap (λ (found : Unit {0} × Trace). found.1) (runs_are_folds r trace)
      ∙ ap (trace_after r) new

-- ---- keys, each once

module _ (answers others : Key → Answer) where
  -- a key that is the first of some, or one of those after it
  agree_at : (b : Bool) (first : Key) (keys : List Key) (key : Key) → same_key first key ≡ b → answers first ≡ others first
      → (list_any (λ other. same_key other key) keys ≡ true → answers key ≡ others key)
      → b || list_any (λ other. same_key other key) keys ≡ true → answers key ≡ others key
  agree_at true first keys key is same later among = ap answers (sym (keys_are first key is)) ∙ same ∙ ap others (keys_are first key is)
  agree_at false first keys key is same later among = later among

  -- a key that is one of those of which both give the same answer
  agree_on : (keys : List Key) (key : Key) → Agree answers others keys → list_any (λ other. same_key other key) keys ≡ true → answers key ≡ others key
  agree_on [] key agree among = absurd (false≢true among)
  agree_on (first ∷ keys) key (one_more same agree) among = agree_at (same_key first key) first keys key refl same (agree_on keys key agree) among

  -- of some keys and one more
  agree_before : (keys : List Key) (key : Key) → Agree answers others (keys ++ (key ∷ [])) → Agree answers others keys × (answers key ≡ others key)
  agree_before [] key (one_more same agree) = (nothing_asked, same)
  agree_before (first ∷ keys) key (one_more same agree) =
      let before = agree_before keys key agree in (one_more same before.0, before.1)

  agree_with : (b : Bool) (keys : List Key) (key : Key) → list_any (λ other. same_key other key) keys ≡ b
      → Agree answers others (if b then keys else keys ++ (key ∷ [])) → Agree answers others keys × (answers key ≡ others key)
  agree_with true keys key among agree = (agree, agree_on keys key agree among)
  agree_with false keys key among agree = agree_before keys key agree

  -- of keys that are kept once
  agree_on_all : (keys more : List Key) → Agree answers others (with_keys keys more) → Agree answers others keys × Agree answers others more
  agree_on_all keys [] agree = (agree, nothing_asked)
  agree_on_all keys (key ∷ more) agree =
      let later = agree_on_all (with_key keys key) more agree in
      let found = agree_with (list_any (λ other. same_key other key) keys) keys key refl later.0 in
      (found.0, one_more found.1 later.1)

-- what is found in a unit, and its reads, depend on the answers to its reads alone
pub units_have_their_reads : UnitsHaveTheirReads
units_have_their_reads options files others file unit agree =
    let r = unit_reading options file unit in
    let same = frame (answer_of files) (answer_of others) r (agree_on_all (answer_of files) (answer_of others) [] (asked (answer_of files) r) agree).1 in
    (ap in_order same.1, ap (with_keys []) same.0)

-- its reads are its list, and it has no other
pub reads_are_the_list : ReadsAreTheList
reads_are_the_list options files file unit = asked_are_the_list (answer_of files) (unit_reading options file unit)

pub no_other_list : OneListAlone
no_other_list options files file unit = one_list_alone (answer_of files) (unit_reading options file unit)

-- ---- alike worlds

agree_everywhere : (answers others : Key → Answer) → ((key : Key) → answers key ≡ others key) → (keys : List Key) → Agree answers others keys
agree_everywhere answers others same [] = nothing_asked
agree_everywhere answers others same (key ∷ keys) = one_more (same key) (agree_everywhere answers others same keys)

-- files that give the same answers
pub alike_answers : AlikeAnswersFindAlike
alike_answers options files others file unit same =
    units_have_their_reads options files others file unit (agree_everywhere (answer_of files) (answer_of others) same (reads options files file unit))

-- what comes of a unit over interfaces that give the same answers
pub over_alike : (options : Options) (interfaces others : List Interface) (unit : FileUnit) → ((key : Key) → answer_by interfaces key ≡ answer_by others key)
    → checked_by options interfaces unit ≡ checked_by options others unit
over_alike options interfaces others unit same =
    ap (λ (answers : Key → Answer). check_of (with_keys [] (asked answers (unit_reading options unit.file unit.unit)))
    (in_order (reported answers (unit_reading options unit.file unit.unit)))) (λ t key. same key t)

-- files with the same interfaces
pub alike_interfaces : AlikeInterfacesFindAlike
alike_interfaces options files others file unit same =
    alike_answers options files others file unit (λ key. ap (λ interfaces. answer_by interfaces key) same)
