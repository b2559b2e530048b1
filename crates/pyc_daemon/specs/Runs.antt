-- What a run of a session did: the bytes that it took and wrote, for every input that goes on from those bytes.
use Rattle.std.specs.Prelude.{◌≡◌, ◌<◌, ℕ, Bool, false, IsTrue, List, [], ◌∷◌, ◌++◌, length, Option, Some}
use Rattle.std.specs.Prelude.{Result, Ok, Err}
use Rattle.std.specs.Io.KnownBytes.{Consumes, IsAtEnd, Appends}
use Rattle.pyc_daemon.specs.Counted.{IsSound, FailsOnce, calls_of, faults_of, one_more}
use Rattle.pyc_daemon.specs.declared.counted.Counted.{Counted}
use Rattle.pyc_session.specs.declared.ending.End.{End}
use Rattle.pyc_session.specs.declared.ending.RunFault.{RunFault}
use Rattle.pyc_session.specs.declared.ending.RunFault.TheVariants as fault
use Rattle.pyc_iface.specs.declared.options.Options.{Options}
use Rattle.pyc_session.specs.Entry.{Entry}
use Rattle.pyc_session.specs.Event.{Event, Links}
use Rattle.pyc_session.specs.Session.{Session, Progress, Turn, turn, has_command, progress, session_of}
use Rattle.pyc_session.specs.State.{State, start}

-- where the input's end was reported, nothing comes after
abbrev pub IsLast : Bool → List ℕ → Type 0
IsLast ended rest = IsTrue ended → rest ≡ []

-- what a run meets outside: the source, the known bytes that are left to be read, and those that are written
pub record Streams (S : Type 0) : Type 0 where
  pub source : S
  pub left : Option (List ℕ)
  pub reported : Option (List ℕ)

abbrev pub streams : {S : Type 0} → S → Option (List ℕ) → Option (List ℕ) → Streams S
streams source left reported = record { source = source; left = left; reported = reported }

-- what was taken, and whether the end was reported; what the commands met, one event a command; and what was written
pub record Work : Type 0 where
  pub taken : List ℕ
  pub ended : Bool
  pub events : List Event
  pub written : List ℕ

-- a run that ended wrote the whole session
abbrev pub WroteAll : Options → Work → End → Type 0
WroteAll options work end = (rest : List ℕ) → IsLast work.ended rest
    → session_of options (work.taken ++ rest) work.events ≡ Some (record { text = work.written; ending = end })

-- A run that could not read on took commands whose replies were written whole, and then less than one command.
pub record AwaitsCommand (options : Options) (work : Work) : Type 0 where
  pub state : State
  pub part : List ℕ
  pub less : has_command part ≡ false
  pub replied : (rest : List ℕ) → progress (start options) (work.taken ++ rest) work.events
      ≡ Some (record { text = work.written; state = state; rest = part ++ rest })

-- a command after others whose reply begins with these bytes, which are not all of it
pub record BeginsReply (options : Options) (input : List ℕ) (events : List Event) (event : Event)
    (replies part : List ℕ) : Type 0 where
  pub before : Progress
  pub last : Turn
  pub later : List ℕ
  pub replied : progress (start options) input events ≡ Some before
  pub text : before.text ≡ replies
  pub turn : turn before.state before.rest event ≡ Some last
  pub reply : last.reply ≡ part ++ later
  pub is_left : 0 < length later

-- A run that could not write on took commands whose replies were written whole, and one whose reply was written in
-- part.
pub record BreaksReply (options : Options) (work : Work) : Type 0 where
  pub events : List Event
  pub event : Event
  pub replies : List ℕ
  pub part : List ℕ
  pub met : work.events ≡ events ++ event ∷ []
  pub wrote : work.written ≡ replies ++ part
  pub begins : (rest : List ℕ) → IsLast work.ended rest
      → BeginsReply options (work.taken ++ rest) events event replies part

-- a run that could not begin did nothing
abbrev pub DidNothing : Work → Type 0
DidNothing work = (work.taken ≡ []) × (work.events ≡ []) × (work.written ≡ [])

-- what a run did that answered so
abbrev pub Reports : Options → Work → Result End RunFault → Type 0
Reports options work (Ok end) = WroteAll options work end
Reports options work (Err fault.Read) = AwaitsCommand options work
Reports options work (Err fault.TooManyTurns) = AwaitsCommand options work
Reports options work (Err fault.Write) = BreaksReply options work
Reports options work (Err fault.Memory) = DidNothing work

-- what was written begins what a session writes for every input and events that go on from those of the run
abbrev pub WroteFirst : Options → Work → Type 0
WroteFirst options work =
    (rest : List ℕ) (more : List Event) (session : Session) → IsLast work.ended rest
    → session_of options (work.taken ++ rest) (work.events ++ more) ≡ Some session
    → (later : List ℕ) × (session.text ≡ work.written ++ later)

-- A run from streams to streams, by what a fetch does to a source (`step`).
pub record Runs {S : Type 0} (step : S → List ℕ → Entry → S → Type 0) (options : Options) (before after : Streams S)
    (result : Result End RunFault) : Type 0 where
  pub work : Work
  pub consumes : Consumes before.left after.left work.taken
  pub at_end : IsTrue work.ended → IsAtEnd after.left
  pub appends : Appends before.reported after.reported work.written
  pub links : Links step before.source work.events after.source
  pub reports : Reports options work result
  pub first : WroteFirst options work

-- what commands that were served until this answer did to the counts of their reader and their writer
abbrev pub ComesOfServing :
    {R W : Type 0} → Result End RunFault → Counted R → Counted R → Counted W → Counted W → ℕ → Type 0
ComesOfServing (Ok end) reader reader' writer writer' turns = IsSound reader reader' × IsSound writer writer'
ComesOfServing (Err fault.Read) reader reader' writer writer' turns =
    (faults_of reader' ≡ one_more (faults_of reader)) × IsSound writer writer'
ComesOfServing (Err fault.Write) reader reader' writer writer' turns =
    IsSound reader reader' × FailsOnce writer writer'
ComesOfServing (Err fault.TooManyTurns) reader reader' writer writer' turns =
    IsSound reader reader' × IsSound writer writer' × (calls_of reader' ≡ turns)
ComesOfServing (Err fault.Memory) reader reader' writer writer' turns = ⊥

-- what a run that answered so did to the counts of its reader and its writer: one that could not begin did nothing
abbrev pub ComesOfRun :
    {R W : Type 0} → Result End RunFault → Counted R → Counted R → Counted W → Counted W → ℕ → Type 0
ComesOfRun (Err fault.Memory) reader reader' writer writer' turns = (reader' ≡ reader) × (writer' ≡ writer)
ComesOfRun answer reader reader' writer writer' turns = ComesOfServing answer reader reader' writer writer' turns
