-- Commands at the front of an input, and the sessions that follow them.
use Rattle.std.proofs.Common.{◌≡◌, ℕ, ◌<◌, ◌≤◌, Bool, true, false, if◌then◌else◌, ◌==◌, nat_lt, List, [], ◌∷◌, ◌++◌, length, take, drop, bytes_eq, zero, suc, Option, None, Some, option_map, option_and_then, Result, Ok, Err, OnOk, OnErr, IfOk, IfErr, unwrap_or, refl, sym, ap, subst, ◌∙◌, arith, append_assoc, length-append}
use Rattle.std.proofs.Math.Seq.{take-append_seam, drop-append_seam}
use Rattle.std.proofs.lemmas.Bool.Decides.{nat_tests}
use Rattle.pyc_session.specs.Command.{bytes_after, spelled}
use Rattle.pyc_session.specs.Entry.{Entry}
use Rattle.pyc_session.specs.Event.{Event}
use Rattle.pyc_session.specs.Input.{has_line_feed, first_line, after_line, command_line}
use Rattle.pyc_session.specs.Refusal.{Reason, first_standing, reasons, refusal_text, early_refusal, late_refusal, keep_refusal, remove_refusal}
use Rattle.pyc_workspace.specs.Path.{is_file_path}
use Rattle.pyc_session.specs.declared.keep.Keep.{Keep}
use Rattle.pyc_session.specs.Session.{Turn, Onward, Session, Progress, turn, has_command, file_turn, reported, kept, removed, updated, handed_over, refusal_in, check_turn, check_reply, after_check, keeping, dropping, replied, ok, last_turn, goes_on, ends, onto, after_turn, session_from, further, go_on, progress, CommandsComeFirst}
use Rattle.pyc_session.specs.State.{State}
use Rattle.pyc_workspace.specs.Workspace.{File, taken}
use Rattle.pyc_workspace.specs.Fresh.{fresh}
use Rattle.pyc_report.specs.Report.{Report}
use Rattle.pyc_session.specs.declared.refusal.Refusal.{Refusal}
use Rattle.pyc_session.specs.declared.refusal.Refusal.TheVariants as refusal
use Rattle.pyc_session.specs.declared.ending.End.{End}
use Rattle.pyc_session.specs.declared.ending.End.TheVariants.{EndOfInput, Broken}

-- a line that a line feed ends
pub first_line-fed : (raw rest : List ℕ) → has_line_feed raw ≡ false → first_line (raw ++ 10 ∷ rest) ≡ raw
first_line-fed [] rest none = refl
first_line-fed (b ∷ bs) rest none =
    elim (b == 10) as (λ t. (if t then true else has_line_feed bs) ≡ false → (if t then [] else b ∷ first_line (bs ++ 10 ∷ rest)) ≡ b ∷ bs) [
      | true ↦ λ e. cc
      | false ↦ λ e. ap (λ zs. b ∷ zs) (first_line-fed bs rest e)
    ] none

pub after_line-fed : (raw rest : List ℕ) → has_line_feed raw ≡ false → after_line (raw ++ 10 ∷ rest) ≡ rest
after_line-fed [] rest none = refl
after_line-fed (b ∷ bs) rest none =
    elim (b == 10) as (λ t. (if t then true else has_line_feed bs) ≡ false → (if t then bs ++ 10 ∷ rest else after_line (bs ++ 10 ∷ rest)) ≡ rest) [
      | true ↦ λ e. cc
      | false ↦ λ e. after_line-fed bs rest e
    ] none

pub has_line_feed-fed : (raw rest : List ℕ) → has_line_feed (raw ++ 10 ∷ rest) ≡ true
has_line_feed-fed [] rest = refl
has_line_feed-fed (b ∷ bs) rest =
    elim (b == 10) as (λ t. (if t then true else has_line_feed (bs ++ 10 ∷ rest)) ≡ true) [ true ↦ refl | false ↦ has_line_feed-fed bs rest ]

-- a line that the end of the input ends
pub first_line-last : (raw : List ℕ) → has_line_feed raw ≡ false → first_line raw ≡ raw
first_line-last [] none = refl
first_line-last (b ∷ bs) none =
    elim (b == 10) as (λ t. (if t then true else has_line_feed bs) ≡ false → (if t then [] else b ∷ first_line bs) ≡ b ∷ bs) [
      | true ↦ λ e. cc
      | false ↦ λ e. ap (λ zs. b ∷ zs) (first_line-last bs e)
    ] none

pub after_line-last : (raw : List ℕ) → has_line_feed raw ≡ false → after_line raw ≡ []
after_line-last [] none = refl
after_line-last (b ∷ bs) none =
    elim (b == 10) as (λ t. (if t then true else has_line_feed bs) ≡ false → (if t then bs else after_line bs) ≡ []) [
      | true ↦ λ e. cc
      | false ↦ λ e. after_line-last bs e
    ] none

-- less than a line is no command
pub no_line : (raw : List ℕ) → has_line_feed raw ≡ false → has_command raw ≡ false
unfolding has_command
no_line raw none = rw none refl

-- nor is a line without all the bytes that belong to it
pub no_bytes : (raw part : List ℕ) → has_line_feed raw ≡ false → length part < bytes_after (spelled (command_line raw true)) → has_command (raw ++ 10 ∷ part) ≡ false
unfolding has_command
no_bytes raw part none few =
    let short : nat_lt (length part) (bytes_after (spelled (command_line raw true))) ≡ true = grind (arith, nat_tests) in
    rw (has_line_feed-fed raw part, after_line-fed raw part none, first_line-fed raw part none, short) refl

-- ---- reasons

-- a reason among the first is reported first
first_of_front : (n : ℕ) (reasons : List Reason) (why : Refusal) → first_standing (take n reasons) ≡ Some why → first_standing reasons ≡ Some why
first_of_front zero reasons why e = cc
first_of_front (suc n) [] why e = e
first_of_front (suc n) (reason ∷ reasons) why e =
    elim reason.stands as (λ b. (if b then Some reason.refusal else first_standing (take n reasons)) ≡ Some why → (if b then Some reason.refusal else first_standing reasons) ≡ Some why) [
      | true ↦ λ is. is
      | false ↦ λ is. first_of_front n reasons why is
    ] e

-- where none of them stands, it is one of the others
first_of_rest : (n : ℕ) (reasons : List Reason) → first_standing (take n reasons) ≡ None → first_standing reasons ≡ first_standing (drop n reasons)
first_of_rest zero reasons e = refl
first_of_rest (suc n) [] e = refl
first_of_rest (suc n) (reason ∷ reasons) e =
    elim reason.stands as (λ b. (if b then Some reason.refusal else first_standing (take n reasons)) ≡ None → (if b then Some reason.refusal else first_standing reasons) ≡ first_standing (drop n reasons)) [
      | true ↦ λ is. cc
      | false ↦ λ is. first_of_rest n reasons is
    ] e

front_same : (how : Keep) (files : List File) (path : List ℕ) (size : ℕ) (wanting : Bool) → take 3 (reasons how files path size wanting) ≡ take 3 (reasons how files path size false)
unfolding reasons
front_same how files path size wanting = refl

-- what is reported early is reported
pub early_reported : (how : Keep) (files : List File) (path : List ℕ) (size : ℕ) (wanting : Bool) (why : Refusal) → early_refusal how files path size ≡ Some why → keep_refusal how files path size wanting ≡ Some why
early_reported how files path size wanting why e =
    first_of_front 3 (reasons how files path size wanting) why (ap first_standing (front_same how files path size wanting) ∙ e)

-- where nothing is, it is what is reported late
pub late_reported : (how : Keep) (files : List File) (path : List ℕ) (size : ℕ) (wanting : Bool) → early_refusal how files path size ≡ None
    → keep_refusal how files path size wanting ≡ late_refusal how files path size wanting
late_reported how files path size wanting e =
    first_of_rest 3 (reasons how files path size wanting) (ap first_standing (front_same how files path size wanting) ∙ e)

-- want of memory is reported first of what is reported late
pub late_memory : (how : Keep) (files : List File) (path : List ℕ) (size : ℕ) → late_refusal how files path size true ≡ Some refusal.Memory
unfolding reasons
late_memory how files path size = refl

-- ---- what a call on a daemon answered

pub reported_keep : (how : Keep) (s s' : State) (path : List ℕ) (size : ℕ) (held : List ℕ) (answer : Result (Unit {0}) Refusal)
    → size ≡ length held
    → OnOk answer (keep_refusal how s.present path size false ≡ None)
    → OnOk answer (s' ≡ keeping s (record { path = path; bytes = held }))
    → IfErr answer (λ why. (wanting : Bool) × (keep_refusal how s.present path size wanting ≡ Some why))
    → OnErr answer (s' ≡ s)
    → (wanting : Bool) × (kept how s path held wanting ≡ record { refusal = refusal_in answer; state = s' })
reported_keep how s s' path size held (Ok x) long fine after refusal same = (false, rw (← long, fine, after) refl)
reported_keep how s s' path size held (Err why) long fine after refusal same = (refusal.0, rw (← long, refusal.1, same) refl)

pub reported_remove : (s s' : State) (path : List ℕ) (answer : Result (Unit {0}) Refusal)
    → OnOk answer (remove_refusal s.present path ≡ None) → OnOk answer (s' ≡ dropping s path)
    → IfErr answer (λ why. remove_refusal s.present path ≡ Some why) → OnErr answer (s' ≡ s)
    → removed s path ≡ record { refusal = refusal_in answer; state = s' }
reported_remove s s' path (Ok x) fine after refusal same = rw (fine, after) refl
reported_remove s s' path (Err why) fine after refusal same = rw (refusal, same) refl

-- an `update` of a path that no file may have
pub update_bad : (s : State) (path : List ℕ) → is_file_path path ≡ false
    → updated s path (record { wants_memory = false; fetched = None }) ≡ Some (record { refusal = Some refusal.Path; state = s })
unfolding updated
update_bad s path e = rw e refl

pub same_bytes : (xs : List ℕ) → bytes_eq xs xs ≡ true
same_bytes [] = refl
same_bytes (x ∷ xs) = let h : (x == x) ≡ true = grind (arith, nat_tests) in rw (h, same_bytes xs) refl

-- an `update` of another, with what was fetched
pub update_fetched : (s : State) (path : List ℕ) (wanting : Bool) (entry : Entry) → is_file_path path ≡ true
    → updated s path (record { wants_memory = wanting; fetched = Some (record { path = path; entry = entry }) }) ≡ handed_over s path wanting entry
unfolding updated
update_fetched s path wanting entry e = rw (e, same_bytes path) refl

-- ---- commands with bytes after them

enough_bytes : (held rest : List ℕ) (size : ℕ) → length held ≡ size → nat_lt (length (held ++ rest)) size ≡ false
enough_bytes held rest size e = let long : size ≤ length (held ++ rest) = omega (arith, length-append held rest) in grind (arith, nat_tests)

too_few_bytes : (rest : List ℕ) (size : ℕ) → length rest < size → nat_lt (length rest) size ≡ true
too_few_bytes rest size e = grind (arith, nat_tests)

-- a command whose bytes came
pub file_whole : (how : Keep) (s : State) (path : List ℕ) (size : ℕ) (wanting : Bool) (held rest : List ℕ) → length held ≡ size
    → file_turn how s path size wanting (held ++ rest) ≡ reported (kept how s path held wanting) rest
unfolding file_turn
file_whole how s path size wanting held rest e =
    let front : take size (held ++ rest) ≡ held = subst (λ n. take n (held ++ rest) ≡ held) e (take-append_seam held rest) in
    let back : drop size (held ++ rest) ≡ rest = subst (λ n. drop n (held ++ rest) ≡ rest) e (drop-append_seam held rest) in
    rw (enough_bytes held rest size e, front, back) refl

-- and one whose bytes did not all come
pub file_short : (how : Keep) (s : State) (path : List ℕ) (size : ℕ) (wanting : Bool) (rest : List ℕ) → length rest < size
    → file_turn how s path size wanting rest ≡ last_turn (refusal_text refusal.Truncated) s Broken
unfolding file_turn
file_short how s path size wanting rest few = rw (too_few_bytes rest size few) refl

-- the file is kept
pub file_done : (how : Keep) (s s' : State) (path : List ℕ) (size : ℕ) (held rest : List ℕ) → length held ≡ size
    → early_refusal how s.present path size ≡ None → late_refusal how s.present path size false ≡ None
    → s' ≡ keeping s (record { path = path; bytes = held })
    → file_turn how s path size false (held ++ rest) ≡ replied ok s' rest
file_done how s s' path size held rest e early late after =
    file_whole how s path size false held rest e ∙ rw (e, late_reported how s.present path size false early, late, after) refl

-- it is refused late
pub file_late : (how : Keep) (s s' : State) (path : List ℕ) (size : ℕ) (wanting : Bool) (why : Refusal) (held rest : List ℕ) → length held ≡ size
    → early_refusal how s.present path size ≡ None → late_refusal how s.present path size wanting ≡ Some why → s' ≡ s
    → file_turn how s path size wanting (held ++ rest) ≡ replied (refusal_text why) s' rest
file_late how s s' path size wanting why held rest e early late same =
    file_whole how s path size wanting held rest e ∙ rw (e, late_reported how s.present path size wanting early, late, same) refl

-- it is refused before, or its bytes are not kept for want of memory
pub file_not_kept : (how : Keep) (s : State) (path : List ℕ) (size : ℕ) (early : Option Refusal) (held rest : List ℕ) → length held ≡ size
    → early ≡ early_refusal how s.present path size
    → file_turn how s path size true (held ++ rest) ≡ replied (refusal_text (unwrap_or early refusal.Memory)) s rest
file_not_kept how s path size None held rest e is = file_late how s s path size true refusal.Memory held rest e (sym is) (late_memory how s.present path size) refl
file_not_kept how s path size (Some why) held rest e is =
    file_whole how s path size true held rest e ∙ rw (e, early_reported how s.present path size true why (sym is)) refl

-- a check that is done
pub check_done : (s s' : State) (report : Report) (rest : List ℕ) → report ≡ fresh s.options (taken s.present) → s' ≡ after_check s
    → check_turn s false rest ≡ replied (check_reply report) s' rest
unfolding check_turn
check_done s s' report rest e f = rw (e, f) refl

-- and one that is refused memory
pub check_refused : (s s' : State) (rest : List ℕ) → s' ≡ s → check_turn s true rest ≡ replied (refusal_text refusal.Memory) s' rest
unfolding check_turn
check_refused s s' rest e = rw e refl

-- ---- sessions

append_nil : (xs : List ℕ) → xs ++ [] ≡ xs
append_nil [] = refl
append_nil (x ∷ xs) = ap (λ ys. x ∷ ys) (append_nil xs)

onto_none : (o : Option Session) → o ≡ option_map (onto []) o
onto_none None = refl
onto_none (Some session) = refl

onto_onto : (front back : List ℕ) (o : Option Session) → option_map (onto front) (option_map (onto back) o) ≡ option_map (onto (front ++ back)) o
onto_onto front back None = refl
onto_onto front back (Some session) = ap (λ zs. Some (record { text = zs; ending = session.ending })) (sym (append_assoc front back session.text))

further_none : (o : Option Progress) → o ≡ option_map (further []) o
further_none None = refl
further_none (Some later) = refl

further_further : (front back : List ℕ) (o : Option Progress) → option_map (further front) (option_map (further back) o) ≡ option_map (further (front ++ back)) o
further_further front back None = refl
further_further front back (Some later) = ap (λ zs. Some (record later { text = zs })) (sym (append_assoc front back later.text))

module _ (events more : List Event) (p : Progress) where
  -- what holds of the commands after a turn
  abbrev Later : State → List ℕ → Type 0
  Later s rest = (q : Progress) → progress s rest events ≡ Some q → session_from s rest (events ++ more) ≡ option_map (onto q.text) (session_from q.state q.rest more)

  session_by_progress : (reply : List ℕ) (later : Option Session) (o : Option Progress)
      → ((q : Progress) → o ≡ Some q → later ≡ option_map (onto q.text) (session_from q.state q.rest more)) → option_map (further reply) o ≡ Some p
      → option_map (onto reply) later ≡ option_map (onto p.text) (session_from p.state p.rest more)
  session_by_progress reply later None known e = cc
  session_by_progress reply later (Some q) known e =
      let same : further reply q ≡ p = cc in
      rw (known q refl, ← same) (onto_onto reply q.text (session_from q.state q.rest more))

  session_by_onward : (reply : List ℕ) (onward : Onward) (s : State) (rest : List ℕ) → Later s rest
      → go_on reply onward (progress s rest events) ≡ Some p
      → after_turn reply onward (events ++ more) (session_from s rest (events ++ more)) ≡ option_map (onto p.text) (session_from p.state p.rest more)
  session_by_onward reply goes_on s rest known e = session_by_progress reply (session_from s rest (events ++ more)) (progress s rest events) known e
  session_by_onward reply (ends end) s rest known e = cc

  session_by_turn : (o : Option Turn) → ((t : Turn) → Later t.state t.rest)
      → option_and_then (λ t. go_on t.reply t.onward (progress t.state t.rest events)) o ≡ Some p
      → option_and_then (λ t. after_turn t.reply t.onward (events ++ more) (session_from t.state t.rest (events ++ more))) o ≡ option_map (onto p.text) (session_from p.state p.rest more)
  session_by_turn None known e = cc
  session_by_turn (Some t) known e = session_by_onward t.reply t.onward t.state t.rest (known t) e

-- what comes after the first commands
pub session_after : (s : State) (input : List ℕ) (events more : List Event) (p : Progress) → progress s input events ≡ Some p
    → session_from s input (events ++ more) ≡ option_map (onto p.text) (session_from p.state p.rest more)
session_after s input [] more p e =
    let same : record { text = []; state = s; rest = input } ≡ p = cc in
    rw (← same) (onto_none (session_from s input more))
session_after s input (event ∷ events) more p e =
    session_by_turn events more p (turn s input event) (λ t q is. session_after t.state t.rest events more q is) e

module _ (events more : List Event) (p : Progress) where
  abbrev LaterCommands : State → List ℕ → Type 0
  LaterCommands s rest = (q : Progress) → progress s rest events ≡ Some q → progress s rest (events ++ more) ≡ option_map (further q.text) (progress q.state q.rest more)

  progress_by_progress : (reply : List ℕ) (later o : Option Progress)
      → ((q : Progress) → o ≡ Some q → later ≡ option_map (further q.text) (progress q.state q.rest more)) → option_map (further reply) o ≡ Some p
      → option_map (further reply) later ≡ option_map (further p.text) (progress p.state p.rest more)
  progress_by_progress reply later None known e = cc
  progress_by_progress reply later (Some q) known e =
      let same : further reply q ≡ p = cc in
      rw (known q refl, ← same) (further_further reply q.text (progress q.state q.rest more))

  progress_by_onward : (reply : List ℕ) (onward : Onward) (s : State) (rest : List ℕ) → LaterCommands s rest
      → go_on reply onward (progress s rest events) ≡ Some p
      → go_on reply onward (progress s rest (events ++ more)) ≡ option_map (further p.text) (progress p.state p.rest more)
  progress_by_onward reply goes_on s rest known e = progress_by_progress reply (progress s rest (events ++ more)) (progress s rest events) known e
  progress_by_onward reply (ends end) s rest known e = cc

  progress_by_turn : (o : Option Turn) → ((t : Turn) → LaterCommands t.state t.rest)
      → option_and_then (λ t. go_on t.reply t.onward (progress t.state t.rest events)) o ≡ Some p
      → option_and_then (λ t. go_on t.reply t.onward (progress t.state t.rest (events ++ more))) o ≡ option_map (further p.text) (progress p.state p.rest more)
  progress_by_turn None known e = cc
  progress_by_turn (Some t) known e = progress_by_onward t.reply t.onward t.state t.rest (known t) e

-- further commands after the first ones
pub progress_after : (s : State) (input : List ℕ) (events more : List Event) (p : Progress) → progress s input events ≡ Some p
    → progress s input (events ++ more) ≡ option_map (further p.text) (progress p.state p.rest more)
progress_after s input [] more p e =
    let same : record { text = []; state = s; rest = input } ≡ p = cc in
    rw (← same) (further_none (progress s input more))
progress_after s input (event ∷ events) more p e =
    progress_by_turn events more p (turn s input event) (λ t q is. progress_after t.state t.rest events more q is) e

-- one more command after which the session goes on
pub progress_on : (s : State) (input : List ℕ) (events : List Event) (event : Event) (p : Progress) (t : Turn) → progress s input events ≡ Some p
    → turn p.state p.rest event ≡ Some t → t.onward ≡ goes_on
    → progress s input (events ++ event ∷ []) ≡ Some (record { text = p.text ++ t.reply; state = t.state; rest = t.rest })
progress_on s input events event p t e is on =
    progress_after s input events (event ∷ []) p e ∙ rw (is, on, append_nil t.reply) refl

-- a command that ends the session
pub session_over : (s : State) (input : List ℕ) (events : List Event) (event : Event) (p : Progress) (t : Turn) (end : End) → progress s input events ≡ Some p
    → turn p.state p.rest event ≡ Some t → t.onward ≡ ends end
    → session_from s input (events ++ event ∷ []) ≡ Some (record { text = p.text ++ t.reply; ending = end })
session_over s input events event p t end e is last =
    session_after s input events (event ∷ []) p e ∙ rw (is, last) refl

events_nil : (events : List Event) → events ++ [] ≡ events
events_nil [] = refl
events_nil (event ∷ events) = ap (λ es. event ∷ es) (events_nil events)

-- an input that ends after commands
pub session_ended : (s : State) (input : List ℕ) (events : List Event) (p : Progress) → progress s input events ≡ Some p → p.rest ≡ []
    → session_from s input events ≡ Some (record { text = p.text; ending = EndOfInput })
session_ended s input events p e none =
    ap (session_from s input) (sym (events_nil events)) ∙ session_after s input events [] p e ∙ rw (none, append_nil p.text) refl

-- what the first commands wrote comes first in the session
pub text_begins : (text : List ℕ) (o : Option Session) (session : Session) → option_map (onto text) o ≡ Some session → (later : List ℕ) × (session.text ≡ text ++ later)
text_begins text None session e = cc
text_begins text (Some after) session e =
    let same : onto text after ≡ session = cc in (after.text, sym (ap (λ (o : Session). o.text) same))

pub commands_first : CommandsComeFirst
commands_first s input events more first session e is =
    text_begins first.text (session_from first.state first.rest more) session (sym (session_after s input events more first e) ∙ is)

text_after : (front reply : List ℕ) (onward : Onward) (more : List Event) (o : Option Session) (session : Session)
    → option_map (onto front) (after_turn reply onward more o) ≡ Some session → (later : List ℕ) × (session.text ≡ (front ++ reply) ++ later)
text_after front reply goes_on more None session e = cc
text_after front reply goes_on more (Some after) session e =
    let same : onto front (onto reply after) ≡ session = cc in
    (after.text, sym (ap (λ (x : Session). x.text) same) ∙ sym (append_assoc front reply after.text))
text_after front reply (ends end) [] o session e =
    let same : onto front (record { text = reply; ending = end }) ≡ session = cc in
    ([], sym (ap (λ (x : Session). x.text) same) ∙ sym (append_nil (front ++ reply)))
text_after front reply (ends end) (event ∷ more) o session e = cc

-- what the first commands wrote, and the reply of the next, come first in the session
pub turn_first : (s : State) (input : List ℕ) (events : List Event) (event : Event) (more : List Event) (p : Progress) (t : Turn) (session : Session)
    → progress s input events ≡ Some p → turn p.state p.rest event ≡ Some t → session_from s input ((events ++ event ∷ []) ++ more) ≡ Some session
    → (later : List ℕ) × (session.text ≡ (p.text ++ t.reply) ++ later)
turn_first s input events event more p t session e is whole =
    let after = session_after s input events (event ∷ more) p e in
    let joined : (events ++ event ∷ []) ++ more ≡ events ++ (event ∷ more) = append_assoc events (event ∷ []) more in
    text_after p.text t.reply t.onward more (session_from t.state t.rest more) session
    (sym (rw is at after) ∙ ap (session_from s input) (sym joined) ∙ whole)

-- a call that is refused late is refused
pub reported_late : (how : Keep) (files : List File) (path : List ℕ) (size : ℕ) (answer : Result (Unit {0}) Refusal) → early_refusal how files path size ≡ None
    → IfErr answer (λ why. (wanting : Bool) × (late_refusal how files path size wanting ≡ Some why))
    → IfErr answer (λ why. (wanting : Bool) × (keep_refusal how files path size wanting ≡ Some why))
reported_late how files path size (Ok x) early e = tt
reported_late how files path size (Err why) early e = (e.0, late_reported how files path size e.0 early ∙ e.1)

pub if_ok : {T E : Type 0} (r : Result T E) (P Q : T → Type 0) → ((x : T) → P x → Q x) → IfOk r P → IfOk r Q
if_ok (Ok x) P Q f p = f x p
if_ok (Err e) P Q f p = tt
