use Rattle.pyc_daemon.specs.Counted.{inner_of, IsSound, GivesRoom}
use Rattle.pyc_daemon.proofs.Going.{JoinedSoFar}
use Rattle.pyc_daemon.proofs.writing.write_parts.Given as goal

abbrev pub invariant-loop-part : goal.invariant-loop-part
invariant-loop-part g l = record {
  sound : IsSound l.fn.writer l.writer;
  buffers : GivesRoom l.fn.writer l.writer;
  joined : JoinedSoFar (g.W.Write.contents (inner_of l.fn.writer)) (g.W.Write.contents (inner_of l.writer)) l.parts l.part-index;
}
