-- What reading an input in pieces does: bytes are read from the reader, held in a window, and used.
use Rattle.std.specs.Prelude.{◌≡◌, ℕ, ◌+◌, ◌-◌, ◌*◌, ◌≤◌, Bool, true, false, IsTrue, if◌then◌else◌, List, []}
use Rattle.std.specs.Prelude.{◌++◌, length, Option, Result, OnOk, OnErr, IfErr}
use Rattle.std.specs.Io.KnownBytes.{Consumes, IsAtEnd}
use Rattle.pyc_daemon.specs.Counted.{IsSound, GivesRoom, calls_of, faults_of, one_more}
use Rattle.pyc_daemon.specs.ReadBuffer.{held_of, ended_of}
use Rattle.pyc_daemon.specs.declared.counted.Counted.{Counted}
use Rattle.pyc_daemon.specs.declared.read_buffer.ReadBuffer.{ReadBuffer}
use Rattle.pyc_session.specs.declared.ending.RunFault.{RunFault}
use Rattle.pyc_session.specs.declared.ending.RunFault.TheVariants.{Read, Write, TooManyTurns, Memory}

-- From known bytes left in the reader and bytes held in the window to later ones: some were read, and `bytes` were
-- used.
pub record Advances (left : Option (List ℕ)) (held : List ℕ) (left' : Option (List ℕ)) (held' : List ℕ)
    (bytes : List ℕ) : Type 0 where
  pub got : List ℕ
  pub consumes : Consumes left left' got
  pub seam : held ++ got ≡ bytes ++ held'

-- The reader may still be called, and where it reported its end nothing is left.
pub record IsReading (left : Option (List ℕ)) (ended : Bool) (calls turns : ℕ) : Type 0 where
  pub low : calls ≤ turns
  pub at_end : IsTrue ended → IsAtEnd left

-- What reading may still take, an upper bound that each step lowers: nothing once the reader reported its end,
-- else one for the end, 4,097 for each read that is left, and one for each byte that is held.
abbrev pub work_left : Bool → ℕ → ℕ → ℕ → ℕ
work_left ended held calls turns = if ended then 0 else 1 + (turns - calls) * 4097 + held

-- What a fault of reading comes of: one fault that the reader answered, or as many reads as there may be and no fault.
abbrev pub ComesOfReading : {R : Type 0} → RunFault → Counted R → Counted R → ℕ → Type 0
ComesOfReading Read before after turns = faults_of after ≡ one_more (faults_of before)
ComesOfReading Write before after turns = ⊥
ComesOfReading TooManyTurns before after turns = IsSound before after × (calls_of after ≡ turns)
ComesOfReading Memory before after turns = ⊥

-- where the input's end was reported before, nothing more was used, and it is reported still
abbrev pub EndsNothing : Bool → Bool → List ℕ → Type 0
EndsNothing ended ended' bytes = ended ≡ true → (bytes ≡ []) × (ended' ≡ true)

-- what reading may still take, with this buffer and this reader
abbrev pub work_of : {R : Type 0} → ReadBuffer → Counted R → ℕ → ℕ
work_of buffer reader turns = work_left (ended_of buffer) (length (held_of buffer)) (calls_of reader) turns

-- How a command was read that was answered so: the input may be read on, and no read was without room. Where the
-- command was read, no call failed, and reading may still take no more than before. Where it was not, a fault says why,
-- the input had not ended and has not, and nothing is held.
pub record ReadsOn {R T : Type 0} (left : Option (List ℕ)) (before after : ReadBuffer) (reader reader' : Counted R)
    (turns : ℕ) (result : Result T RunFault) : Type 0 where
  pub reading : IsReading left (ended_of after) (calls_of reader') turns
  pub buffers : GivesRoom reader reader'
  pub work : OnOk result (work_of after reader' turns ≤ work_of before reader turns)
  pub sound : OnOk result (IsSound reader reader')
  pub fault : IfErr result (λ e. ComesOfReading e reader reader' turns)
  pub unended : OnErr result ((ended_of before ≡ false) × (ended_of after ≡ false))
  pub empty : OnErr result (held_of after ≡ [])
