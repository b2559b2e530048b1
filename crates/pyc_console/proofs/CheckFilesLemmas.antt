-- A check of files, update by update.
use Rattle.std.proofs.Common.{◌≡◌, ℕ, Bool, true, false, List, [], ◌∷◌, ◌++◌, Option, None, Some, is_some, option_map, option_and_then, refl, sym, ap, subst, ◌∙◌, append_assoc, ◌||◌, ◌≢◌, ◌⊎◌, inl, inr, All, zero, suc, unwrap_or, true≢false, take, length, map, string_bytes, get_or, ◌+◌, ◌<◌, ◌≤◌, String, arith, codes, if◌then◌else◌, ◌==◌, ◌&&◌, not}
use Rattle.std.specs.Prelude.{Result, Ok, Err, IfOk, OnOk, OnErr}
use Rattle.std.specs.List.{concat}
use Rattle.std.proofs.lemmas.Bool.{eqb-true}
use Rattle.std.proofs.lemmas.List.{map-append, take_all, take_more}
use Rattle.std.proofs.lemmas.List.Elements.{All-append}
use Rattle.std.specs.Global.{Global}
use Rattle.std.specs.Io.KnownBytes.{Appends}
use Rattle.pyc_iface.specs.declared.options.Options.{Options}
use Rattle.pyc_session.specs.Entry.{Entry}
use Rattle.pyc_session.specs.Event.{Event, FetchStep}
use Rattle.pyc_workspace.specs.Fresh.{fresh, checked, source_of}
use Rattle.pyc_workspace.specs.Workspace.{File, taken}
use Rattle.pyc_daemon.specs.Counted.{IsSound, FailsOnce, at_fault, at_empty, faults_of, zeros_of}
use Rattle.pyc_daemon.specs.declared.counted.Counted.{Counted}
use Rattle.pyc_daemon.specs.Replies.{WritesPart}
use Rattle.pyc_report.specs.Report.{Report, error_lines, printed_lines, report_of, summary}
use Rattle.pyc_session.specs.declared.ending.RunFault.{RunFault}
use Rattle.pyc_session.specs.Session.{Outcome, updated, refusal_in}
use Rattle.pyc_session.specs.State.{State, start}
use Rattle.pyc_session.specs.declared.refusal.Refusal.{Refusal}
use Rattle.pyc_session.specs.declared.refusal.Refusal.TheVariants as refusal
use Rattle.pyc_daemon.proofs.Going.{appends_none, appends_trans, links_push, part_before, part_after}
use Rattle.pyc_daemon.proofs.Moving.{append_nil, sound_none, sound_trans, write_fault}
use Rattle.pyc_console.specs.declared.checking.CheckFault.{CheckFault}
use Rattle.pyc_console.specs.declared.checking.CheckFault.TheVariants as check_fault
use Rattle.pyc_console.specs.CheckFiles.{Checks, Outside, Prints, RefusedFile, TellsMemory, UpdatedFiles, before_others, end_line, is_any, outside, refusal_lines, refused_file, report_status, updated_files}
use Rattle.pyc_console.specs.Lines.{Writes, program_line, refusal_line}
use Rattle.pyc_console.specs.Updates.{UpdatesAll, UpdatesOne, WritesOn, more, none, has_failed}

-- ---- refused files

files_nil : (files : List RefusedFile) → files ++ [] ≡ files
files_nil [] = refl
files_nil (file ∷ files) = ap (λ fs. file ∷ fs) (files_nil files)

files_assoc : (a b c : List RefusedFile) → a ++ (b ++ c) ≡ (a ++ b) ++ c
files_assoc [] b c = refl
files_assoc (file ∷ files) b c = ap (λ fs. file ∷ fs) (files_assoc files b c)

lines_append : (a b : List RefusedFile) → refusal_lines (a ++ b) ≡ refusal_lines a ++ refusal_lines b
lines_append [] b = refl
lines_append (file ∷ files) b =
    ap (λ zs. refusal_line file.path file.refusal ++ zs) (lines_append files b) ∙ sym (append_assoc (refusal_line file.path file.refusal) (refusal_lines files) (refusal_lines b))

any_append : (a b : List RefusedFile) → is_any (a ++ b) ≡ (is_any a || is_any b)
any_append [] b = refl
any_append (file ∷ files) b = refl

any_file : (path : List ℕ) (reported : Option Refusal) → is_any (refused_file path reported) ≡ is_some reported
any_file path None = refl
any_file path (Some why) = refl

-- ---- one more update

module _ (event : Event) (path : List ℕ) (o : Outcome) (u : UpdatedFiles) where
  -- what updates that are known to come so far come to with this one
  abbrev With : UpdatedFiles → Option UpdatedFiles
  With v = Some (record { refused = v.refused ++ refused_file path o.refusal; state = o.state })

  more_by_progress : (first : List ℕ) (reported : Option Refusal) (known : Option UpdatedFiles) (later : Option UpdatedFiles)
      → ((v : UpdatedFiles) → known ≡ Some v → updated v.state path event ≡ Some o → later ≡ With v)
      → option_map (before_others first reported) known ≡ Some u → updated u.state path event ≡ Some o
      → option_map (before_others first reported) later ≡ With u
  more_by_progress first reported None later steps e is = cc
  more_by_progress first reported (Some v) later steps e is =
      let same : before_others first reported v ≡ u = cc in
      let from : later ≡ With v = steps v refl (ap (λ (x : UpdatedFiles). updated x.state path event) same ∙ is) in
      rw (from, ← same) (ap (λ fs. Some (record { refused = fs; state = o.state })) (files_assoc (refused_file first reported) v.refused (refused_file path o.refusal)))

  more_by_outcome : (first : List ℕ) (paths : List (List ℕ)) (events : List Event) (known : Option Outcome)
      → ((s : State) (v : UpdatedFiles) → updated_files s paths events ≡ Some v → updated v.state path event ≡ Some o
      → updated_files s (paths ++ path ∷ []) (events ++ event ∷ []) ≡ With v)
      → option_and_then (λ outcome. option_map (before_others first outcome.refusal) (updated_files outcome.state paths events)) known ≡ Some u
      → updated u.state path event ≡ Some o
      → option_and_then (λ outcome. option_map (before_others first outcome.refusal) (updated_files outcome.state (paths ++ path ∷ []) (events ++ event ∷ []))) known ≡ With u
  more_by_outcome first paths events None steps e is = cc
  more_by_outcome first paths events (Some outcome) steps e is =
      more_by_progress first outcome.refusal (updated_files outcome.state paths events) (updated_files outcome.state (paths ++ path ∷ []) (events ++ event ∷ [])) (steps outcome.state) e is

one_update : (s : State) (path : List ℕ) (event : Event) (o : Outcome) → updated s path event ≡ Some o
    → updated_files s (path ∷ []) (event ∷ []) ≡ Some (record { refused = refused_file path o.refusal; state = o.state })
one_update s path event o is = rw (is, files_nil (refused_file path o.refusal)) refl

one_more : (s : State) (paths : List (List ℕ)) (events : List Event) (event : Event) (path : List ℕ) (o : Outcome) (u : UpdatedFiles)
    → updated_files s paths events ≡ Some u → updated u.state path event ≡ Some o
    → updated_files s (paths ++ path ∷ []) (events ++ event ∷ []) ≡ Some (record { refused = u.refused ++ refused_file path o.refusal; state = o.state })
one_more s [] [] event path o u e is =
    let same : record { refused = []; state = s } ≡ u = cc in
    let from : updated s path event ≡ Some o = ap (λ (x : UpdatedFiles). updated x.state path event) same ∙ is in
    rw (← same) (one_update s path event o from)
one_more s [] (first ∷ events) event path o u e is = cc
one_more s (other ∷ paths) [] event path o u e is = cc
one_more s (other ∷ paths) (first ∷ events) event path o u e is =
    more_by_outcome event path o u other paths events (updated s other first) (λ t v known from. one_more t paths events event path o v known from) e is

-- ---- one text more

-- where a write failed that was the first, one has failed
failed_once : {W : Type 0} (first writer : Counted W) → faults_of first ≡ 0 → zeros_of first ≡ 0 → FailsOnce first writer → faults_of writer ≡ 0 → zeros_of writer ≡ 0 → ⊥
failed_once first writer faults zeros (at_fault f z) none_failed none_empty = cc
failed_once first writer faults zeros (at_empty f z) none_failed none_empty = cc

never_failed : {W : Type 0} (first writer : Counted W) → faults_of first ≡ 0 → zeros_of first ≡ 0 → IsSound first writer → has_failed writer ≡ false
never_failed first writer faults zeros sound = rw (sound.faults, sound.zeros, faults, zeros) refl

none_after : (xs ys : List ℕ) → (xs ≡ [] → ⊥) → xs ++ ys ≡ [] → ⊥
none_after [] ys some e = some refl
none_after (x ∷ xs) ys some e = cc

none_before : (xs ys : List ℕ) → (ys ≡ [] → ⊥) → xs ++ ys ≡ [] → ⊥
none_before [] ys some e = some e
none_before (x ∷ xs) ys some e = cc

-- more after a text that was written
more_after : {W : Type 0} (first writer writer' : Counted W) (reported reported' reported'' : Option (List ℕ)) (text later : List ℕ) (failed : Bool)
    → Writes false first writer reported reported' text → Writes failed writer writer' reported' reported'' later → Writes failed first writer' reported reported'' (text ++ later)
more_after first writer writer' reported reported' reported'' text later false w m = (sound_trans first writer writer' w.0 m.0, appends_trans reported reported' reported'' text later w.1 m.1)
more_after first writer writer' reported reported' reported'' text later true w m = record {
  fails = write_fault first writer writer' w.0 m.fails;
  part = part_after reported reported' reported'' text later w.1 m.part;
  some = none_before text later m.some;
}

-- what is written of two texts, where the second is written unless the first was not
pub writes_on : {W : Type 0} (first writer writer' : Counted W) (reported reported' reported'' : Option (List ℕ)) (text later : List ℕ) (failed : Bool)
    → faults_of first ≡ 0 → zeros_of first ≡ 0 → Writes failed first writer reported reported' text → WritesOn writer writer' reported' reported'' later
    → (failed' : Bool) × Writes failed' first writer' reported reported'' (text ++ later)
writes_on first writer writer' reported reported' reported'' text later false faults zeros w (more f z failed m) =
    (failed, more_after first writer writer' reported reported' reported'' text later failed w m)
writes_on first writer writer' reported reported' reported'' text later false faults zeros w (none has same_writer same_reported) =
    absurd (true≢false (sym has ∙ never_failed first writer faults zeros w.0))
writes_on first writer writer' reported reported' reported'' text later true faults zeros w (more f z failed m) =
    absurd (failed_once first writer faults zeros w.fails f z)
writes_on first writer writer' reported reported' reported'' text later true faults zeros w (none has same_writer same_reported) = (
  true,
  record {
    fails = subst (λ x. FailsOnce first x) (sym same_writer) w.fails;
    part = subst (λ x. WritesPart reported x (text ++ later)) (sym same_reported) (part_before reported reported' text later w.part);
    some = none_after text later w.some;
  },
)

pub both_true : (a b : Bool) → not (a && b) ≡ false → (a ≡ true) × (b ≡ true)
both_true true true e = (refl, refl)
both_true true false e = cc
both_true false b e = cc

-- no text, where nothing is done
nothing_by : {W : Type 0} (writer : Counted W) (reported : Option (List ℕ)) (has : Bool) → has_failed writer ≡ has → WritesOn writer writer reported reported []
nothing_by writer reported true is = none is refl refl
nothing_by writer reported false is =
    let zeros = both_true (faults_of writer == 0) (zeros_of writer == 0) is in
    more (eqb-true _ _ zeros.0) (eqb-true _ _ zeros.1) false (sound_none writer, appends_none reported)

pub writes_nothing : {W : Type 0} (writer : Counted W) (reported : Option (List ℕ)) → WritesOn writer writer reported reported []
writes_nothing writer reported = nothing_by writer reported (has_failed writer) refl

-- a program's line is not empty
pub some_line : (text : List ℕ) → program_line text ≡ [] → ⊥
some_line text e = cc

-- what was written of a text, as `write_parts` and `write_bytes` tell it
pub writes_by : {W T : Type 0} (writer writer' : Counted W) (reported reported' : Option (List ℕ)) (text : List ℕ) (answer : Result T RunFault)
    → OnOk answer (Appends reported reported' text) → OnErr answer (WritesPart reported reported' text) → OnOk answer (IsSound writer writer') → OnErr answer (FailsOnce writer writer') → (text ≡ [] → ⊥)
    → (failed : Bool) × Writes failed writer writer' reported reported' text
writes_by writer writer' reported reported' text (Ok x) whole part sound fails some = (false, (sound, whole))
writes_by writer writer' reported reported' text (Err why) whole part sound fails some = (true, record { fails = fails; part = part; some = some })

pub writes_more : {W T : Type 0} (writer writer' : Counted W) (reported reported' : Option (List ℕ)) (text : List ℕ) (answer : Result T RunFault)
    → faults_of writer ≡ 0 → zeros_of writer ≡ 0
    → OnOk answer (Appends reported reported' text) → OnErr answer (WritesPart reported reported' text) → OnOk answer (IsSound writer writer') → OnErr answer (FailsOnce writer writer') → (text ≡ [] → ⊥)
    → WritesOn writer writer' reported reported' text
writes_more writer writer' reported reported' text answer faults zeros whole part sound fails some =
    let w = writes_by writer writer' reported reported' text answer whole part sound fails some in more faults zeros w.0 w.1

-- the line on a refused file, from its texts
pub refusal_reported : {W : Type 0} (writer writer' : Counted W) (reported reported' : Option (List ℕ)) (path text : List ℕ)
    → WritesOn writer writer' reported reported' (codes "dmypy: " ++ (path ++ (codes ": " ++ (text ++ [])))) → WritesOn writer writer' reported reported' (program_line (path ++ (codes ": " ++ text)))
refusal_reported writer writer' reported reported' path text w = subst (λ zs. WritesOn writer writer' reported reported' (codes "dmypy: " ++ (path ++ (codes ": " ++ zs)))) (append_nil text) w

-- ---- reports

summary_some : (none : Bool) (a b : List ℕ) → (if none then codes "Success: no issues found in " ++ a else codes "Found " ++ b) ≡ [] → ⊥
summary_some true a b e = cc
summary_some false a b e = cc

-- the text of a report is not empty
pub report_some : (options : Options) (files : List File) → (fresh options files).text ≡ [] → ⊥
unfolding fresh report_of summary
report_some options files =
    let founds = map (checked options (map source_of files)) files in
    none_before (concat (printed_lines founds)) _ (summary_some (length (error_lines founds) == 0) _ _)

-- the report is printed in part
pub prints_part : {O : Type 0} (out out' : Counted O) (printed printed' : Option (List ℕ)) (options : Options) (files : List File) (report : Report) (refused : Bool) → report ≡ fresh options files
    → FailsOnce out out' → WritesPart printed printed' report.text → Prints (Err check_fault.Write) (fresh options files) refused out out' printed printed'
prints_part out out' printed printed' options files report refused same fails part = record {
  fails = fails;
  part = subst (λ (r : Report). WritesPart printed printed' r.text) same part;
  some = report_some options files;
}

-- ---- want of memory

one_left : (file : RefusedFile) → file.refusal ≢ refusal.Memory → All (λ (f : RefusedFile). f.refusal ≢ refusal.Memory) (file ∷ [])
one_left file other zero d within = other
one_left file other (suc k) d within = absurd (omega (arith, within))

-- all files have their lines
told_whole : (reported reported' : Option (List ℕ)) (files : List RefusedFile) → Appends reported reported' (refusal_lines files)
    → TellsMemory reported reported' files
told_whole reported reported' files appends = record {
  told = files;
  others = [];
  parts = sym (files_nil files);
  later = [];
  appends = subst (λ zs. Appends reported reported' zs) (sym (append_nil (refusal_lines files))) appends;
  no_memory = λ k d within. absurd (omega (arith, within));
}

-- the lines stay where more is written
told_later : (reported reported' reported'' : Option (List ℕ)) (files : List RefusedFile) (text : List ℕ) → TellsMemory reported reported' files
    → Appends reported' reported'' text → TellsMemory reported reported'' files
told_later reported reported' reported'' files text t appends = record {
  told = t.told;
  others = t.others;
  parts = t.parts;
  later = t.later ++ text;
  appends = subst (λ zs. Appends reported reported'' zs) (append_assoc (refusal_lines t.told) t.later text)
      (appends_trans reported reported' reported'' (refusal_lines t.told ++ t.later) text t.appends appends);
  no_memory = t.no_memory;
}

-- a file more, which is not refused for want of memory
told_other : (reported reported' : Option (List ℕ)) (files : List RefusedFile) (file : RefusedFile) → TellsMemory reported reported' files
    → file.refusal ≢ refusal.Memory → TellsMemory reported reported' (files ++ file ∷ [])
told_other reported reported' files file t other = record {
  told = t.told;
  others = t.others ++ file ∷ [];
  parts = ap (λ fs. fs ++ file ∷ []) t.parts ∙ sym (files_assoc t.told t.others (file ∷ []));
  later = t.later;
  appends = t.appends;
  no_memory = All-append (λ (f : RefusedFile). f.refusal ≢ refusal.Memory) t.others (file ∷ []) t.no_memory (one_left file other);
}

-- what is written of a text
written_by : {W : Type 0} (writer writer' : Counted W) (reported reported' : Option (List ℕ)) (text : List ℕ) → WritesOn writer writer' reported reported' text
    → (part : List ℕ) × Appends reported reported' part
written_by writer writer' reported reported' text (more f z false w) = (text, w.1)
written_by writer writer' reported reported' text (more f z true w) = (w.part.written, w.part.appends)
written_by writer writer' reported reported' text (none has same_writer same_reported) = ([], subst (λ r. Appends reported r []) (sym same_reported) (appends_none reported))

some_failure : (a b : Bool) → (a ≡ true → b ≡ true → ⊥) → not (a && b) ≡ true
some_failure true true h = absurd (h refl refl)
some_failure true false h = refl
some_failure false b h = refl

-- where a write failed that was the first, one has failed
has_failed_once : {W : Type 0} (first writer : Counted W) → faults_of first ≡ 0 → zeros_of first ≡ 0 → FailsOnce first writer → has_failed writer ≡ true
has_failed_once first writer faults zeros fails =
    some_failure (faults_of writer == 0) (zeros_of writer == 0)
    (λ f z. failed_once first writer faults zeros fails (eqb-true _ _ f) (eqb-true _ _ z))

-- the files with one more that is refused
told_refused : {W : Type 0} (first writer writer' : Counted W) (reported reported' reported'' : Option (List ℕ)) (files : List RefusedFile) (file : RefusedFile) (failed : Bool)
    → faults_of first ≡ 0 → zeros_of first ≡ 0 → Writes failed first writer reported reported' (refusal_lines files) → TellsMemory reported reported' files
    → WritesOn writer writer' reported' reported'' (refusal_lines (file ∷ [])) → (has_failed writer' ≡ true → file.refusal ≢ refusal.Memory)
    → TellsMemory reported reported'' (files ++ file ∷ [])
told_refused first writer writer' reported reported' reported'' files file false faults zeros w t (more f z false m) other =
    told_whole reported reported'' (files ++ file ∷ [])
    (subst (λ zs. Appends reported reported'' zs) (sym (lines_append files (file ∷ [])))
    (appends_trans reported reported' reported'' (refusal_lines files) (refusal_lines (file ∷ [])) w.1 m.1))
told_refused first writer writer' reported reported' reported'' files file true faults zeros w t (more f z false m) other =
    absurd (failed_once first writer faults zeros w.fails f z)
told_refused first writer writer' reported reported' reported'' files file failed faults zeros w t (more f z true m) other =
    told_other reported reported'' files file (told_later reported reported' reported'' files m.part.written t m.part.appends)
    (other (has_failed_once writer writer' f z m.fails))
told_refused first writer writer' reported reported' reported'' files file failed faults zeros w t (none has same_writer same_reported) other =
    subst (λ r. TellsMemory reported r (files ++ file ∷ [])) (sym same_reported)
    (told_other reported reported' files file t (other (ap (λ w. has_failed w) same_writer ∙ has)))

told_by : {W : Type 0} (first writer writer' : Counted W) (reported reported' reported'' : Option (List ℕ)) (files : List RefusedFile) (path : List ℕ) (why : Option Refusal) (failed : Bool)
    → faults_of first ≡ 0 → zeros_of first ≡ 0 → Writes failed first writer reported reported' (refusal_lines files) → TellsMemory reported reported' files
    → WritesOn writer writer' reported' reported'' (refusal_lines (refused_file path why)) → (has_failed writer' ≡ true → why ≢ Some refusal.Memory)
    → TellsMemory reported reported'' (files ++ refused_file path why)
told_by first writer writer' reported reported' reported'' files path None failed faults zeros w t one other =
    let more_written = written_by writer writer' reported' reported'' [] one in
    subst (λ fs. TellsMemory reported reported'' fs) (sym (files_nil files)) (told_later reported reported' reported'' files more_written.0 t more_written.1)
told_by first writer writer' reported reported' reported'' files path (Some why) failed faults zeros w t one other =
    told_refused first writer writer' reported reported' reported'' files (record { path = path; refusal = why }) failed faults zeros w t one
    (λ has is. other has (ap (λ r. Some r) is))

-- of two of which one tells nothing
neither : (a b : Bool) → (a || b) ≡ false → (a ≡ false) × (b ≡ false)
neither true b e = cc
neither false b e = (refl, e)

-- ---- updates

-- no file is updated yet
pub updates_none : {S E : Type 0} (step : S → List ℕ → Entry → S → Type 0) (source : S) (err : Counted E) (reported : Option (List ℕ)) (s : State)
    → (failed : Bool) × UpdatesAll step source source err err reported reported s s [] false false failed
updates_none step source err reported s = (
  false,
  record {
    events = [];
    files = [];
    reaches = refl;
    links = refl;
    reports = (sound_none err, appends_none reported);
    is = refl;
    told = λ _. told_whole reported reported [] (appends_none reported);
  },
)

-- one more is
pub updates_on : {S E : Type 0} (step : S → List ℕ → Entry → S → Type 0) (source source' source'' : S) (err err' err'' : Counted E) (reported reported' reported'' : Option (List ℕ)) (s s' s'' : State) (paths : List (List ℕ)) (path : List ℕ) (refused untold more_refused more_untold : Bool) (event : Event)
    → faults_of err ≡ 0 → zeros_of err ≡ 0
    → (failed : Bool) × UpdatesAll step source source' err err' reported reported' s s' paths refused untold failed
    → FetchStep step source' event.fetched source'' → UpdatesOne err' err'' reported' reported'' path s' s'' event more_refused more_untold
    → (failed : Bool) × UpdatesAll step source source'' err err'' reported reported'' s s'' (paths ++ path ∷ []) (refused || more_refused) (untold || more_untold) failed
updates_on step source source' source'' err err' err'' reported reported' reported'' s s' s'' paths path refused untold more_refused more_untold event faults zeros (failed, u) fetched one =
    let files = refused_file path one.refusal in
    let w = writes_on err err' err'' reported reported' reported'' (refusal_lines u.files) (refusal_lines files) failed faults zeros u.reports one.reports in (
      w.0,
      record {
        events = u.events ++ event ∷ [];
        files = u.files ++ files;
        reaches = one_more s paths u.events event path (record { refusal = one.refusal; state = s'' }) (record { refused = u.files; state = s' }) u.reaches one.reaches;
        links = links_push step source source' source'' u.events u.links event fetched;
        reports = subst (λ zs. Writes w.0 err err'' reported reported'' zs) (sym (lines_append u.files files)) w.1;
        is = rw (u.is, one.is) (sym (any_append u.files files ∙ ap (λ b. is_any u.files || b) (any_file path one.refusal)));
        told = λ tells.
            let both = neither untold more_untold tells in
            told_by err err' err'' reported reported' reported'' u.files path one.refusal failed faults zeros u.reports (u.told both.0) one.reports (one.told both.1);
      },
    )

-- the paths of the first files and of the next one
pub paths_next : (files : List (String Global)) (i : ℕ) (file : String Global) → i < length files → file ≡ get_or files i file
    → map string_bytes (take i files) ++ string_bytes file ∷ [] ≡ map string_bytes (take (i + 1) files)
paths_next files i file within is =
    sym (ap (λ fs. map string_bytes fs) (take_more files i file within ∙ ap (λ x. take i files ++ x ∷ []) (sym is)) ∙ map-append string_bytes (take i files) (file ∷ []))

-- they are all
pub paths_all : (files : List (String Global)) (i : ℕ) → length files ≤ i → map string_bytes (take i files) ≡ map string_bytes files
paths_all files i past = ap (λ fs. map string_bytes fs) (take_all i files past)

-- ---- one update

-- how a call refused
pub reported_result : (s' : State) (answer answer' : Result (Unit {0}) Refusal) (o : Option Outcome) → o ≡ Some (record { refusal = refusal_in answer; state = s' }) → answer ≡ answer'
    → o ≡ Some (record { refusal = refusal_in answer'; state = s' })
reported_result s' answer answer' o e same = e ∙ ap (λ r. Some (record { refusal = refusal_in r; state = s' })) same

some_refusal : (a b : Refusal) → Some a ≡ Some b → a ≡ b
some_refusal a b is = ap (λ r. unwrap_or r a) is

-- the file is accepted
pub one_accepted : {E : Type 0} (err : Counted E) (reported : Option (List ℕ)) (path : List ℕ) (s s' : State) (event : Event) → updated s path event ≡ Some (record { refusal = None; state = s' })
    → UpdatesOne err err reported reported path s s' event false false
one_accepted err reported path s s' event e = record { refusal = None; reaches = e; reports = writes_nothing err reported; is = refl; told = λ tells has is. true≢false (sym (ap is_some is)) }

-- it is refused
pub one_refused : {E : Type 0} (err err' : Counted E) (reported reported' : Option (List ℕ)) (path : List ℕ) (s s' : State) (event : Event) (why : Refusal) (untold : Bool) → updated s path event ≡ Some (record { refusal = Some why; state = s' })
    → WritesOn err err' reported reported' (refusal_line path why) → (untold ≡ false → has_failed err' ≡ true → why ≢ refusal.Memory)
    → UpdatesOne err err' reported reported' path s s' event true untold
one_refused err err' reported reported' path s s' event why untold e w told = record {
  refusal = Some why;
  reaches = e;
  reports = subst (λ zs. WritesOn err err' reported reported' zs) (sym (append_nil (refusal_line path why))) w;
  is = refl;
  told = λ tells has is. told tells has (some_refusal why refusal.Memory is);
}

-- ---- the whole check

told_at_end : (reported reported' reported'' : Option (List ℕ)) (files : List RefusedFile) (untold : Bool) (result : Result ℕ CheckFault)
    → (result ≡ Err check_fault.Memory) ⊎ (untold ≡ false) → (untold ≡ false → TellsMemory reported reported' files)
    → (part : List ℕ) × Appends reported' reported'' part → (result ≡ Err check_fault.Memory) ⊎ TellsMemory reported reported'' files
told_at_end reported reported' reported'' files untold result (inl wants) tells later = inl wants
told_at_end reported reported' reported'' files untold result (inr all) tells later = inr (told_later reported reported' reported'' files later.0 (tells all) later.1)

pub checks : {S O E : Type 0} (step : S → List ℕ → Entry → S → Type 0) (options : Options) (source source' : S) (out out' : Counted O) (err err' err'' : Counted E) (printed printed' reported reported' reported'' : Option (List ℕ)) (s' : State) (paths : List (List ℕ)) (refused untold : Bool) (result : Result ℕ CheckFault)
    → faults_of err ≡ 0 → zeros_of err ≡ 0
    → (failed : Bool) × UpdatesAll step source source' err err' reported reported' (start options) s' paths refused untold failed
    → (result ≡ Err check_fault.Memory) ⊎ (untold ≡ false)
    → Prints result (fresh s'.options (taken s'.present)) refused out out' printed printed' → WritesOn err' err'' reported' reported'' (end_line result)
    → (failed : Bool) × Checks step options (outside source out err printed reported) (outside source' out' err'' printed' reported'') paths result failed
checks step options source source' out out' err err' err'' printed printed' reported reported' reported'' s' paths refused untold result faults zeros (failed, u) told p end =
    let w = writes_on err err' err'' reported reported' reported'' (refusal_lines u.files) (end_line result) failed faults zeros u.reports end in (
      w.0,
      record {
        events = u.events;
        reached = record { refused = u.files; state = s' };
        reaches = u.reaches;
        links = u.links;
        prints = subst (λ t. Prints result (fresh s'.options (taken s'.present)) t out out' printed printed') u.is p;
        reports = w.1;
        told = told_at_end reported reported' reported'' u.files untold result told u.told (written_by err' err'' reported' reported'' (end_line result) end);
      },
    )

-- where no write to the error output failed, what is reported is whole
pub checks_whole : {S O E : Type 0} (step : S → List ℕ → Entry → S → Type 0) (options : Options) (before after : Outside S O E) (paths : List (List ℕ)) (result : Result ℕ CheckFault)
    → faults_of before.err ≡ 0 → zeros_of before.err ≡ 0 → (failed : Bool) × Checks step options before after paths result failed
    → IsSound before.err after.err → Checks step options before after paths result false
checks_whole step options before after paths result faults zeros (false, c) sound = c
checks_whole step options before after paths result faults zeros (true, c) sound =
    absurd (failed_once before.err after.err faults zeros c.reports.fails (sound.faults ∙ faults) (sound.zeros ∙ zeros))

-- nothing is reported of a check whose status is 0 or 1
nothing_reported : (report : Report) (files : List RefusedFile) (status : ℕ) → status ≡ report_status report (is_any files) → status < 2 → files ≡ []
nothing_reported report [] status e low = refl
nothing_reported report (file ∷ files) status e low = absurd (omega (arith, e, low))

-- a check whose status is 0 or 1 met no fault
sound_below : {S O E : Type 0} (step : S → List ℕ → Entry → S → Type 0) (options : Options) (before after : Outside S O E) (paths : List (List ℕ)) (status : ℕ) (failed : Bool)
    → Checks step options before after paths (Ok status) failed → status < 2 → IsSound before.out after.out × IsSound before.err after.err
sound_below step options before after paths status false c low = (c.prints.1.0, c.reports.0)
sound_below step options before after paths status true c low =
    let no_file = nothing_reported (fresh c.reached.state.options (taken c.reached.state.present)) c.reached.refused status c.prints.0 low in
    absurd (c.reports.some (ap (λ files. refusal_lines files ++ []) no_file))

pub sound_after : {S O E : Type 0} (step : S → List ℕ → Entry → S → Type 0) (options : Options) (before after : Outside S O E) (paths : List (List ℕ)) (result : Result ℕ CheckFault)
    → (failed : Bool) × Checks step options before after paths result failed → IfOk result (λ status. status < 2 → IsSound before.out after.out × IsSound before.err after.err)
sound_after step options before after paths (Ok status) (failed, c) = λ low. sound_below step options before after paths status failed c low
sound_after step options before after paths (Err fault) c = tt
