use Rattle.std.proofs.Common.{◌≤◌, length}
use Rattle.pyc_daemon.specs.Counted.{inner_of, calls_of, IsSound, GivesRoom}
use Rattle.pyc_daemon.specs.Reading.{IsReading, work_left}
use Rattle.pyc_daemon.specs.ReadBuffer.{held_of, ended_of}
use Rattle.pyc_daemon.proofs.Moving.{BodySoFar}
use Rattle.pyc_daemon.proofs.input.read_body.Given as goal

abbrev pub invariant-loop-left : goal.invariant-loop-left
invariant-loop-left g l = record {
  reading : IsReading (g.R.Read.remaining (inner_of l.reader)) (ended_of l.read_buffer) (calls_of l.reader) l.turns;
  body : BodySoFar (g.R.Read.remaining (inner_of l.fn.reader)) (held_of l.fn.read_buffer) (g.R.Read.remaining (inner_of l.reader)) (held_of l.read_buffer) l.bytes.items l.kept l.wanted (ended_of l.fn.read_buffer) (ended_of l.read_buffer) l.size l.left;
  sound : IsSound l.fn.reader l.reader;
  buffers : GivesRoom l.fn.reader l.reader;
  work : work_left (ended_of l.read_buffer) (length (held_of l.read_buffer)) (calls_of l.reader) l.turns
      ≤ work_left (ended_of l.fn.read_buffer) (length (held_of l.fn.read_buffer)) (calls_of l.fn.reader) l.turns;
}

abbrev pub decreases-loop-left : goal.decreases-loop-left
decreases-loop-left g l = work_left (ended_of l.read_buffer) (length (held_of l.read_buffer)) (calls_of l.reader) l.turns
