use Rattle.std.proofs.Common.{◌≡◌, ◌≤◌, true, length, vec_capacity}
use Rattle.pyc_daemon.specs.Counted.{inner_of, calls_of, IsSound, GivesRoom}
use Rattle.pyc_daemon.specs.Reading.{IsReading, work_left}
use Rattle.pyc_daemon.specs.ReadBuffer.{held_of, ended_of}
use Rattle.pyc_session.specs.Input.{has_line_feed}
use Rattle.pyc_daemon.proofs.Moving.{LineSoFar}
use Rattle.pyc_daemon.proofs.input.read_line.Given as goal

abbrev pub invariant-loop-read_buffer : goal.invariant-loop-read_buffer
invariant-loop-read_buffer g l = record {
  room : 514 ≤ vec_capacity l.line;
  reading : IsReading (g.R.Read.remaining (inner_of l.reader)) (ended_of l.read_buffer) (calls_of l.reader) l.turns;
  line : LineSoFar (g.R.Read.remaining (inner_of l.fn.reader)) (held_of l.fn.read_buffer) (g.R.Read.remaining (inner_of l.reader)) (held_of l.read_buffer) l.line.items;
  sound : IsSound l.fn.reader l.reader;
  buffers : GivesRoom l.fn.reader l.reader;
  unread : has_line_feed (held_of l.fn.read_buffer) ≡ true → (l.reader ≡ l.fn.reader) × (has_line_feed (held_of l.read_buffer) ≡ true);
  work : work_left (ended_of l.read_buffer) (length (held_of l.read_buffer)) (calls_of l.reader) l.turns
      ≤ work_left (ended_of l.fn.read_buffer) (length (held_of l.fn.read_buffer)) (calls_of l.fn.reader) l.turns;
}

abbrev pub decreases-loop-read_buffer : goal.decreases-loop-read_buffer
decreases-loop-read_buffer g l = work_left (ended_of l.read_buffer) (length (held_of l.read_buffer)) (calls_of l.reader) l.turns
