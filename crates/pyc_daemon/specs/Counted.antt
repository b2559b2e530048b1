-- What a counted reader or writer holds, and what its calls add.
use Rattle.std.specs.Prelude.{◌≡◌, ℕ, Bool, false, not, ◌==◌, ◌&&◌, ◌+◌, ◌^◌, ◌-◌, if◌then◌else◌, min, List, length}
use Rattle.std.specs.Prelude.{Result, Ok, Err}
use Rattle.pyc_daemon.specs.declared.counted.Counted.{Counted}

-- the reader or writer inside
abbrev pub inner_of : {T : Type 0} → Counted T → T
inner_of c = c.inner

-- how many calls were passed on
abbrev pub calls_of : {T : Type 0} → Counted T → ℕ
calls_of c = c.calls

-- how many of them answered a fault
abbrev pub faults_of : {T : Type 0} → Counted T → ℕ
faults_of c = c.faults

-- how many writes took no byte, though they were given some
abbrev pub zeros_of : {T : Type 0} → Counted T → ℕ
zeros_of c = c.zeros

-- how many calls were given an empty buffer: reads without room for a byte, and writes without a byte
abbrev pub empty_buffers_of : {T : Type 0} → Counted T → ℕ
empty_buffers_of c = c.empty_buffers

-- one more, where a number at its last value stays
abbrev pub one_more : ℕ → ℕ
one_more n = min (n + 1) (2 ^ 64 - 1)

-- whether a buffer has no byte of room
abbrev pub is_empty : List ℕ → Bool
is_empty buffer = length buffer == 0

-- whether a write took no byte of a buffer, though there was one
abbrev pub takes_none : {E : Type 0} → List ℕ → Result ℕ E → Bool
takes_none buffer (Ok n) = (n == 0) && not (is_empty buffer)
takes_none buffer (Err e) = false

-- how many calls were given an empty buffer, after one more call with this one
abbrev pub with_buffer : List ℕ → ℕ → ℕ
with_buffer buffer count = if is_empty buffer then one_more count else count

-- no call failed: neither a fault nor a write of no byte was added
pub record IsSound {T : Type 0} (before after : Counted T) : Type 0 where
  pub faults : faults_of after ≡ faults_of before
  pub zeros : zeros_of after ≡ zeros_of before

-- each call had room for a byte: none was given an empty buffer
abbrev pub GivesRoom : {T : Type 0} → Counted T → Counted T → Type 0
GivesRoom before after = empty_buffers_of after ≡ empty_buffers_of before

-- just one call failed, with a fault or with a write of no byte
pub data FailsOnce {T : Type 0} (before after : Counted T) : Type 0 where
  at_fault : faults_of after ≡ one_more (faults_of before) → zeros_of after ≡ zeros_of before → FailsOnce before after
  at_empty : faults_of after ≡ faults_of before → zeros_of after ≡ one_more (zeros_of before) → FailsOnce before after
