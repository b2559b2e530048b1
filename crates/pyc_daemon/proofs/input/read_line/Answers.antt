use Rattle.std.proofs.Common.{◌∙◌, arith, rules}
use Rattle.std.proofs.lemmas.Result.{err_from_is_err_and}
use Rattle.pyc_daemon.specs.Counted.{calls_of}
use Rattle.pyc_daemon.specs.ReadBuffer.{held_of, ended_of}
use Rattle.pyc_daemon.proofs.Moving.{line_byte_kept, line_byte_left, line_refilled, advances_read, work_byte, work_read, unread_byte, held_line_feed, sound_trans, fault_after}
use Rattle.pyc_daemon.proofs.input.read_line.Goals as goal

pub loop-read_buffer-preserved-then-len-lt-KEPT : goal.loop-read_buffer-preserved-then-len-lt-KEPT
loop-read_buffer-preserved-then-len-lt-KEPT g c = record {
  room = omega arith;
  reading = search rules;
  work = omega (arith, work_byte _ _ _ _ _ (calls_of c.loop-read_buffer.reader) c.args.turns c.take_byte.ensures.ended c.in-Some.ensures.byte);
  sound = search rules;
  buffers = search rules;
  unread = λ e. unread_byte _ _ _ (c.loop-read_buffer.invariant.unread e) c.in-Some.ensures.byte c.in-Some.byte-test.1;
  line = line_byte_kept _ _ _ _ _ _ _ _ c.loop-read_buffer.invariant.line (c.in-Some.ensures.byte) c.in-Some.byte-test.1 (omega arith) c.push_reserved.ensures.items;
}

pub loop-read_buffer-preserved-else-len-lt-KEPT : goal.loop-read_buffer-preserved-else-len-lt-KEPT
loop-read_buffer-preserved-else-len-lt-KEPT g c = record {
  room = omega arith;
  reading = search rules;
  work = omega (arith, work_byte _ _ _ _ _ (calls_of c.loop-read_buffer.reader) c.args.turns c.take_byte.ensures.ended c.in-Some.ensures.byte);
  sound = search rules;
  buffers = search rules;
  unread = λ e. unread_byte _ _ _ (c.loop-read_buffer.invariant.unread e) c.in-Some.ensures.byte c.in-Some.byte-test.1;
  line = line_byte_left _ _ _ _ _ _ _ c.loop-read_buffer.invariant.line (c.in-Some.ensures.byte) c.in-Some.byte-test.1 (omega arith);
}

pub loop-read_buffer-preserved : goal.loop-read_buffer-preserved
loop-read_buffer-preserved g c = record {
  room = omega arith;
  reading = search rules;
  work = omega (arith, work_read (ended_of c.loop-read_buffer.read_buffer) (held_of c.loop-read_buffer.read_buffer) (calls_of c.loop-read_buffer.reader) c.args.turns _ (search rules) (search rules) c.in_ok-refill-in-None.ensures.work);
  sound = sound_trans _ _ _ c.loop-read_buffer.invariant.sound c.in_ok-refill-in-None.ensures.sound;
  buffers = c.in_ok-refill-in-None.ensures.buffers ∙ c.loop-read_buffer.invariant.buffers;
  unread = λ e. held_line_feed (held_of c.loop-read_buffer.read_buffer) (search rules) (c.loop-read_buffer.invariant.unread e).1;
  line = line_refilled _ _ _ _ _ _ _ c.loop-read_buffer.invariant.line (search rules) (search rules);
}

pub returns-in_err-refill-in-None-clause-err : goal.returns-in_err-refill-in-None-clause-err
returns-in_err-refill-in-None-clause-err g c =
    let so_far = c.loop-read_buffer.invariant.line in
    let p = err_from_is_err_and c.from_residual.result c.from_residual.ensures.1 in
    rw p.1 (so_far.raw, advances_read _ _ _ _ _ _ _ so_far.moved (search rules) (search rules), so_far.open_line)

pub returns-in_err-refill-in-None-clause-held : goal.returns-in_err-refill-in-None-clause-held
returns-in_err-refill-in-None-clause-held g c = λ e. held_line_feed (held_of c.loop-read_buffer.read_buffer) (search rules) (c.loop-read_buffer.invariant.unread e).1

pub returns-in_err-refill-in-None-clause-fault : goal.returns-in_err-refill-in-None-clause-fault
returns-in_err-refill-in-None-clause-fault g c =
    let p = err_from_is_err_and c.from_residual.result c.from_residual.ensures.1 in
    rw (p.1, p.2) (fault_after _ _ _ _ _ c.loop-read_buffer.invariant.sound c.in_err-refill-in-None.ensures.fault)

pub returns-clause-held : goal.returns-clause-held
returns-clause-held g c = λ e. (c.loop-read_buffer.invariant.unread e).0
