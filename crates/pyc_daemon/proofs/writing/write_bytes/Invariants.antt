use Rattle.std.proofs.Common.{length}
use Rattle.pyc_daemon.specs.Counted.{inner_of, IsSound, GivesRoom}
use Rattle.pyc_daemon.proofs.Going.{WrittenSoFar}
use Rattle.pyc_daemon.proofs.writing.write_bytes.Given as goal

abbrev pub invariant-loop-rest : goal.invariant-loop-rest
invariant-loop-rest g l = record {
  sound : IsSound l.fn.writer l.writer;
  buffers : GivesRoom l.fn.writer l.writer;
  written : WrittenSoFar (g.W.Write.contents (inner_of l.fn.writer)) (g.W.Write.contents (inner_of l.writer)) l.bytes l.rest;
}

abbrev pub decreases-loop-rest : goal.decreases-loop-rest
decreases-loop-rest g l = length l.rest
