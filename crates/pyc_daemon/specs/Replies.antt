-- Replies as the program holds them.
use Rattle.std.specs.Prelude.{◌≡◌, ℕ, ◌<◌, Bool, IsTrue, List, [], ◌∷◌, ◌++◌, length, codes, decimal, Option, None}
use Rattle.std.specs.Prelude.{Some}
use Rattle.std.specs.Io.KnownBytes.{Appends}
use denote.Ref.{Bor}
use Rattle.pyc_session.specs.declared.ending.End.{End}
use Rattle.pyc_daemon.specs.declared.reply.Reply.{Reply}
use Rattle.pyc_daemon.specs.declared.reply.Reply.TheVariants.{Line, Checked, Counts}
use Rattle.pyc_session.specs.declared.status.Status.{Status}
use Rattle.pyc_daemon.specs.declared.reply.Answer.{Answer}
use Rattle.pyc_session.specs.Event.{Event}
use Rattle.pyc_report.specs.Report.{report_in}
use Rattle.pyc_session.specs.Command.{Spelled}
use Rattle.pyc_session.specs.Session.{Turn, act, goes_on, ends, turn, check_reply}
use Rattle.pyc_session.specs.State.{State}
use Rattle.pyc_daemon.specs.Runs.{IsLast}

-- the line that tells what the last check saw and did
abbrev pub status_text : Status → List ℕ
status_text counts =
    codes "files " ++ (decimal counts.files ++ (codes " bodies " ++ (decimal counts.bodies
    ++ (codes " rechecked " ++ (decimal counts.rechecked ++ codes "\n")))))

-- texts, one after another
abbrev pub joined : List (Bor (List ℕ)) → List ℕ
joined [] = []
joined (text ∷ texts) = text.now ++ joined texts

-- the bytes of a reply
abbrev pub reply_bytes : Reply → List ℕ
reply_bytes (Line text) = text.now
reply_bytes (Checked report) = check_reply (report_in report)
reply_bytes (Counts counts) = status_text counts

-- the turn that an answer and the state after it stand for; after the last one nothing is read
abbrev pub turn_after : List ℕ → Option End → State → List ℕ → Turn
turn_after reply None s rest = record { reply = reply; state = s; onward = goes_on; rest = rest }
turn_after reply (Some end) s rest = record { reply = reply; state = s; onward = ends end; rest = [] }

abbrev pub turn_of : Answer → State → List ℕ → Turn
turn_of answer s rest = turn_after (reply_bytes answer.reply) answer.end s rest

-- an answer is the turn of a command and the bytes that it used, whatever follows them
abbrev pub IsObeyed : State → State → Spelled → List ℕ → Event → Bool → Answer → Type 0
IsObeyed old new said bytes event ended answer =
    (rest : List ℕ) → IsLast ended rest → act old said event (bytes ++ rest) ≡ Some (turn_of answer new rest)

-- What serving one command did, from a state to a state: with no answer the input is at its end; an answer is the turn
-- of the bytes that were used, whatever follows them.
abbrev pub Serves : State → State → List ℕ → Event → Bool → Option Answer → Type 0
Serves old new bytes event ended None = (bytes ≡ []) × IsTrue ended × (new ≡ old) × (event.fetched ≡ None)
Serves old new bytes event ended (Some answer) =
    (rest : List ℕ) → IsLast ended rest → turn old (bytes ++ rest) event ≡ Some (turn_of answer new rest)

-- what was written before a fault: a part that begins these bytes, and some byte of them is left unwritten
pub record WritesPart (reported reported' : Option (List ℕ)) (bytes : List ℕ) : Type 0 where
  pub written : List ℕ
  pub later : List ℕ
  pub appends : Appends reported reported' written
  pub seam : bytes ≡ written ++ later
  pub is_left : 0 < length later
