-- What a window holds.
use Rattle.std.specs.Prelude.{ℕ, ◌-◌, Bool, List, take, drop}
use Rattle.pyc_daemon.specs.declared.read_buffer.ReadBuffer.{ReadBuffer}

-- the bytes that were read and not used yet
abbrev pub held_of : ReadBuffer → List ℕ
held_of w = take (w.end - w.start) (drop w.start w.buffer.items)

-- the bytes of the last read that were used
abbrev pub used_of : ReadBuffer → List ℕ
used_of w = take w.start w.buffer.items

-- whether the reader reported its end
abbrev pub ended_of : ReadBuffer → Bool
ended_of w = w.ended
