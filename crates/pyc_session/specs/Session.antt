-- What a session writes: the replies to the commands that its input spells, and how it ends.
use Rattle.std.specs.Prelude.{◌≡◌, ℕ, Bool, true, nat_lt, not, if◌then◌else◌, List, [], ◌∷◌, ◌++◌, length, take, drop}
use Rattle.std.specs.Prelude.{codes, decimal, bytes_eq, ◌&&◌, Option, None, Some, Result, Ok, Err, option_map}
use Rattle.std.specs.Prelude.{option_and_then}
use Rattle.pyc_session.specs.declared.ending.End.{End}
use Rattle.pyc_session.specs.declared.ending.End.TheVariants.{Stopped, EndOfInput, Broken}
use Rattle.pyc_iface.specs.declared.options.Options.{Options}
use Rattle.pyc_session.specs.declared.refusal.Refusal.{Refusal}
use Rattle.pyc_session.specs.declared.refusal.Refusal.TheVariants as refusal
use Rattle.pyc_session.specs.Command.{Spelled, add, change, endless, update, remove, check, status, stop, unknown}
use Rattle.pyc_session.specs.Command.{spelled, bytes_after}
use Rattle.pyc_session.specs.Entry.{Entry, bytes, unreadable, no_memory}
use Rattle.pyc_session.specs.Event.{Event, Fetch}
use Rattle.pyc_workspace.specs.Fresh.{fresh, units_of}
use Rattle.pyc_session.specs.Input.{has_line_feed, first_line, after_line, command_line}
use Rattle.pyc_session.specs.Refusal.{refusal_text, keep_refusal, kept_as, remove_refusal}
use Rattle.pyc_session.specs.declared.keep.Keep.{Keep}
use Rattle.pyc_session.specs.declared.keep.Keep.TheVariants as keep
use Rattle.pyc_report.specs.Report.{Report}
use Rattle.pyc_reuse.specs.Examined.{examined}
use Rattle.pyc_workspace.specs.Path.{is_file_path}
use Rattle.pyc_session.specs.State.{State, start}
use Rattle.pyc_workspace.specs.Workspace.{File, taken, with_file, without_file}

-- ---- what a command does to the files

-- what a command came to that keeps or removes a file: why it is refused, if it is, and the state after it
pub record Outcome : Type 0 where
  pub refusal : Option Refusal
  pub state : State

-- why a call refused, if it did
abbrev pub refusal_in : Result (Unit {0}) Refusal → Option Refusal
refusal_in (Ok done) = None
refusal_in (Err why) = Some why

-- a refused command leaves the state as it was, another leaves `s'`
abbrev pub unless : Option Refusal → State → State → Outcome
unless (Some why) s s' = record { refusal = Some why; state = s }
unless None s s' = record { refusal = None; state = s' }

-- the state with this file, in place of the file of its path if there is one
abbrev pub keeping : State → File → State
keeping s file = record s { present = with_file s.present file; touched = with_file s.touched file }

-- the state without the file of this path
abbrev pub dropping : State → List ℕ → State
dropping s path = record s { present = without_file s.present path; touched = without_file s.touched path }

-- a file of these bytes is kept, unless it is refused
abbrev pub kept : Keep → State → List ℕ → List ℕ → Bool → Outcome
kept how s path held wanting =
    unless (keep_refusal how s.present path (length held) wanting) s (keeping s (record { path = path; bytes = held }))

-- the file of a path is removed, unless that is refused
abbrev pub removed : State → List ℕ → Outcome
removed s path = unless (remove_refusal s.present path) s (dropping s path)

-- a file is kept as the source hands it over; an update whose fetch wanted memory is one that wants memory
abbrev pub handed_over : State → List ℕ → Bool → Entry → Option Outcome
handed_over s path wanting (bytes held) = Some (kept (kept_as s.present path) s path held wanting)
handed_over s path wanting unreadable = Some (record { refusal = Some refusal.Unreadable; state = s })
handed_over s path wanting no_memory =
    if wanting then Some (record { refusal = Some refusal.Memory; state = s }) else None

-- a value where nothing was fetched
abbrev pub unfetched : {T : Type 0} → Option Fetch → T → Option T
unfetched None value = Some value
unfetched (Some fetch) value = None

-- a value that an entry gives, where just this path was fetched
abbrev pub fetched_at : {T : Type 0} → Option Fetch → List ℕ → (Entry → Option T) → Option T
fetched_at None path given = None
fetched_at (Some fetch) path given = if bytes_eq fetch.path path then given fetch.entry else None

-- an update with what it met: it fetches where a file may have the path, and just that path; absent where it met
-- something else
unfoldable pub updated : State → List ℕ → Event → Option Outcome
updated s path event =
    if is_file_path path then fetched_at event.fetched path (handed_over s path event.wants_memory)
    else unfetched event.fetched (record { refusal = Some refusal.Path; state = s })

-- the state where the files were checked that are taken: it examined the units of new and changed files, and those of
-- whose reads then some key has another answer now
abbrev pub checked : State → State
checked s = record s { last = taken s.present; examined = examined s.options s.last (taken s.present) }

-- the state after a completed check: no file was put since
abbrev pub after_check : State → State
after_check s = record (checked s) { touched = [] }

-- ---- replies

-- the reply of a command that is done and has nothing to tell
abbrev pub ok : List ℕ
ok = codes "ok\n"

-- the reply that tells whether a command is refused
abbrev pub refusal_reply : Option Refusal → List ℕ
refusal_reply None = ok
refusal_reply (Some why) = refusal_text why

-- the reply to `check`: the report, then its status
abbrev pub check_reply : Report → List ℕ
check_reply report = report.text ++ (if report.clean then codes "status 0\n" else codes "status 1\n")

-- the reply to `status`: how many files and units the last completed check saw, and how many units it examined
unfoldable pub status_reply : State → List ℕ
status_reply s =
    codes "files " ++ (decimal (length s.last) ++ (codes " bodies " ++ (decimal (length (units_of s.last))
    ++ (codes " rechecked " ++ (decimal (length s.examined) ++ codes "\n")))))

-- ---- commands

-- whether a session goes on after a command
pub data Onward : Type 0 where
  goes_on : Onward
  ends : End → Onward

-- one command: its reply, the state that it leaves, whether the session goes on, and the input after it
pub record Turn : Type 0 where
  pub reply : List ℕ
  pub state : State
  pub onward : Onward
  pub rest : List ℕ

-- a command after which the session goes on
abbrev pub replied : List ℕ → State → List ℕ → Turn
replied reply s rest = record { reply = reply; state = s; onward = goes_on; rest = rest }

-- the last command of a session; nothing after it is read
abbrev pub last_turn : List ℕ → State → End → Turn
last_turn reply s end = record { reply = reply; state = s; onward = ends end; rest = [] }

-- a command that tells whether it is refused
abbrev pub reported : Outcome → List ℕ → Turn
reported outcome rest = replied (refusal_reply outcome.refusal) outcome.state rest

-- `add PATH N` or `change PATH N`: the next N bytes are the file's, also where it is refused
unfoldable pub file_turn : Keep → State → List ℕ → ℕ → Bool → List ℕ → Turn
file_turn how s path size wanting rest =
    if nat_lt (length rest) size then last_turn (refusal_text refusal.Truncated) s Broken
    else reported (kept how s path (take size rest) wanting) (drop size rest)

-- `check`
unfoldable pub check_turn : State → Bool → List ℕ → Turn
check_turn s wanting rest =
    if wanting then replied (refusal_text refusal.Memory) s rest
    else replied (check_reply (fresh s.options (taken s.present))) (after_check s) rest

-- What a command does with what it met, a row a command; absent where what it met does not fit it. `update` alone
-- fetches.
abbrev pub act : State → Spelled → Event → List ℕ → Option Turn
act s (add path size) event rest =
    unfetched event.fetched (file_turn keep.Add s path size event.wants_memory rest)
act s (change path size) event rest =
    unfetched event.fetched (file_turn keep.Change s path size event.wants_memory rest)
act s (update path) event rest = option_map (λ outcome. reported outcome rest) (updated s path event)
act s (remove path) event rest = unfetched event.fetched (reported (removed s path) rest)
act s check event rest = unfetched event.fetched (check_turn s event.wants_memory rest)
act s status event rest = unfetched event.fetched (replied (status_reply s) s rest)
act s stop event rest = unfetched event.fetched (last_turn ok s Stopped)
act s unknown event rest = unfetched event.fetched (replied (refusal_text refusal.Command) s rest)
act s endless event rest = unfetched event.fetched (last_turn (refusal_text refusal.Command) s Broken)

-- the first command of an input, with what it met; absent at the end of the input
unfoldable pub turn : State → List ℕ → Event → Option Turn
turn s [] event = None
turn s (b ∷ bs) event =
    act s (spelled (command_line (first_line (b ∷ bs)) (has_line_feed (b ∷ bs)))) event (after_line (b ∷ bs))

-- whether a whole command, with the bytes that belong to it, stands at the front of some bytes
unfoldable pub has_command : List ℕ → Bool
has_command input =
    has_line_feed input
    && not (nat_lt (length (after_line input)) (bytes_after (spelled (command_line (first_line input) true))))

-- ---- sessions

-- what a session writes, and how it ends
pub record Session : Type 0 where
  pub text : List ℕ
  pub ending : End

-- a reply, and what comes after it
abbrev pub onto : List ℕ → Session → Session
onto reply later = record { text = reply ++ later.text; ending = later.ending }

-- a session that is over, if no event is left
abbrev pub over : List ℕ → End → List Event → Option Session
over reply end [] = Some (record { text = reply; ending = end })
over reply end (event ∷ events) = None

-- what an input without commands is: a session that is over, if there is no input
abbrev pub at_end : List ℕ → Option Session
at_end [] = Some (record { text = []; ending = EndOfInput })
at_end (b ∷ bs) = None

-- a reply, whether the session goes on, and the session after it
abbrev pub after_turn : List ℕ → Onward → List Event → Option Session → Option Session
after_turn reply goes_on events later = option_map (onto reply) later
after_turn reply (ends end) events later = over reply end events

-- The session of an input from a state on, with what its commands met, an event a command. It is absent where an event
-- does not fit its command, where a command has no event, and where an event is left over.
abbrev pub session_from : State → List ℕ → List Event → Option Session
session_from s input [] = at_end input
session_from s input (event ∷ events) =
    option_and_then (λ t. after_turn t.reply t.onward events (session_from t.state t.rest events)) (turn s input event)

-- the session of an input
abbrev pub session_of : Options → List ℕ → List Event → Option Session
session_of options input events = session_from (start options) input events

-- ---- the first commands of a session

-- what the first commands of a session wrote, the state after them, and the input that is left
pub record Progress : Type 0 where
  pub text : List ℕ
  pub state : State
  pub rest : List ℕ

-- a reply, and the commands after it
abbrev pub further : List ℕ → Progress → Progress
further reply later = record later { text = reply ++ later.text }

-- a reply, whether the session goes on, and the commands after it
abbrev pub go_on : List ℕ → Onward → Option Progress → Option Progress
go_on reply goes_on later = option_map (further reply) later
go_on reply (ends end) later = None

-- the first commands, one for each event; absent where one does not fit, or ends the session
abbrev pub progress : State → List ℕ → List Event → Option Progress
progress s input [] = Some (record { text = []; state = s; rest = input })
progress s input (event ∷ events) =
    option_and_then (λ t. go_on t.reply t.onward (progress t.state t.rest events)) (turn s input event)

-- what the first commands of a session wrote comes first in its text
abbrev pub CommandsComeFirst : Type 0
CommandsComeFirst =
    (s : State) (input : List ℕ) (events more : List Event) (first : Progress) (session : Session)
    → progress s input events ≡ Some first → session_from s input (events ++ more) ≡ Some session
    → (later : List ℕ) × (session.text ≡ first.text ++ later)
