use Rattle.std.proofs.Common.{◌≡◌, drop}
use Rattle.pyc_names.specs.LookNumbers.{with_bytes}
use Rattle.pyc_names.proofs.looks.with_bytes.Given as goal

-- the number so far, with the bytes that are left, is the whole
abbrev pub invariant-loop-byte : goal.invariant-loop-byte
invariant-loop-byte l = with_bytes l.found (drop l.byte-index l.bytes) ≡ with_bytes l.number l.bytes
