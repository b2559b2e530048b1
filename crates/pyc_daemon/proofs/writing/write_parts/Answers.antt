use Rattle.std.proofs.Common.{◌∙◌, arith, refl}
use Rattle.std.proofs.lemmas.Result.{err_from_is_err_and}
use Rattle.pyc_daemon.proofs.Going.{joined_none, joined_on, joined_part, joined_all}
use Rattle.pyc_daemon.proofs.Moving.{sound_none, sound_trans, write_fault}
use Rattle.pyc_daemon.proofs.writing.write_parts.Goals as goal

pub loop-part-init : goal.loop-part-init
loop-part-init g c = record { sound = sound_none _; buffers = refl; joined = joined_none _ _ }

pub returns-in_err-write_bytes-clause-part : goal.returns-in_err-write_bytes-clause-part
returns-in_err-write_bytes-clause-part g c =
    let p = err_from_is_err_and c.from_residual.result c.from_residual.ensures.1 in
    rw p.1 (joined_part _ _ _ _ _ _ _ c.loop-part.invariant.joined (omega arith) c.as_bytes.ensures.value c.in_err-write_bytes.ensures.part)

pub returns-in_err-write_bytes-clause-cause : goal.returns-in_err-write_bytes-clause-cause
returns-in_err-write_bytes-clause-cause g c =
    let p = err_from_is_err_and c.from_residual.result c.from_residual.ensures.1 in
    rw p.1 (write_fault _ _ _ c.loop-part.invariant.sound c.in_err-write_bytes.ensures.cause)

pub loop-part-preserved : goal.loop-part-preserved
loop-part-preserved g c = record {
  sound = sound_trans _ _ _ c.loop-part.invariant.sound c.in_ok-write_bytes.ensures.sound;
  buffers = c.in_ok-write_bytes.ensures.buffers ∙ c.loop-part.invariant.buffers;
  joined = joined_on _ _ _ _ _ _ _ c.loop-part.invariant.joined (omega arith) c.as_bytes.ensures.value c.in_ok-write_bytes.ensures.ok;
}

pub returns-clause-ok : goal.returns-clause-ok
returns-clause-ok g c = joined_all _ _ _ _ c.loop-part.invariant.joined (omega arith)

pub returns-clause-sound : goal.returns-clause-sound
returns-clause-sound g c = c.loop-part.invariant.sound
