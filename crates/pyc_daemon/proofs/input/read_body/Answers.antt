use Rattle.std.proofs.Common.{◌≡◌, ◌∙◌, [], refl, arith, rules}
use Rattle.std.proofs.lemmas.Result.{err_from_is_err_and}
use Rattle.pyc_daemon.specs.Counted.{calls_of}
use Rattle.pyc_daemon.specs.ReadBuffer.{held_of, ended_of}
use Rattle.pyc_daemon.proofs.Moving.{advances_read, part_of_none, body_refilled, body_on, work_read, work_skip, sound_trans, fault_after, not_begun_over}
use Rattle.pyc_daemon.proofs.input.read_body.Goals as goal

pub returns-in_err-refill-clause-err : goal.returns-in_err-refill-clause-err
returns-in_err-refill-clause-err g c =
    let none : held_of c.loop-left.read_buffer ≡ [] = part_of_none _ _ _ (search rules) (search rules) c.first-part.ensures.most in
    let so_far = c.loop-left.invariant.body in
    let p = err_from_is_err_and c.from_residual.result c.from_residual.ensures.1 in
    rw p.1 (so_far.used, advances_read _ _ _ _ _ _ _ so_far.moved none (search rules), omega (arith, so_far.counted))

pub returns-in_err-refill-clause-fault : goal.returns-in_err-refill-clause-fault
returns-in_err-refill-clause-fault g c =
    let p = err_from_is_err_and c.from_residual.result c.from_residual.ensures.1 in
    rw (p.1, p.2) (fault_after _ _ _ _ _ c.loop-left.invariant.sound c.in_err-refill.ensures.fault)

pub returns-in_err-refill-clause-begun : goal.returns-in_err-refill-clause-begun
returns-in_err-refill-clause-begun g c =
    let p = err_from_is_err_and c.from_residual.result c.from_residual.ensures.1 in
    rw p.1 (not_begun_over _ _ (search rules) (λ e. (c.loop-left.invariant.body.idle e).1))

pub loop-left-preserved-then-count-eq0 : goal.loop-left-preserved-then-count-eq0
loop-left-preserved-then-count-eq0 g c =
    let none : held_of c.loop-left.read_buffer ≡ [] = part_of_none _ _ _ (search rules) (search rules) c.first-part.ensures.most in
    record {
      reading = search rules;
      sound = sound_trans _ _ _ c.loop-left.invariant.sound c.in_ok-refill.ensures.sound;
      buffers = c.in_ok-refill.ensures.buffers ∙ c.loop-left.invariant.buffers;
      body = body_refilled _ _ _ _ _ _ _ _ _ _ (ended_of c.loop-left.read_buffer) _ _ _ c.loop-left.invariant.body (search rules) none (search rules);
      work = omega (arith, work_read (ended_of c.loop-left.read_buffer) (held_of c.loop-left.read_buffer) (calls_of c.loop-left.reader) c.args.turns _ (search rules) none c.in_ok-refill.ensures.work);
    }

pub loop-left-smaller : goal.loop-left-smaller
loop-left-smaller g c =
    work_skip _ _ _ _ _ (calls_of c.loop-left.reader) c.args.turns (search rules) c.skip.ensures.ended c.skip.ensures.held c.if-count-eq0.false (omega arith)

pub loop-left-preserved : goal.loop-left-preserved
loop-left-preserved g c =
    let less = work_skip _ _ _ _ _ (calls_of c.loop-left.reader) c.args.turns (search rules) c.skip.ensures.ended c.skip.ensures.held c.if-count-eq0.false (omega arith) in
    record {
      reading = search rules;
      sound = c.loop-left.invariant.sound;
      buffers = c.loop-left.invariant.buffers;
      body = body_on _ _ _ _ _ _ _ _ _ _ _ _ (ended_of c.loop-left.read_buffer) _ _ _ _ c.loop-left.invariant.body (search rules) c.first-part.ensures.front c.first-part.ensures.most refl c.skip.ensures.held c.keep_part-kept.ensures.kept;
      work = omega (arith, less);
    }
