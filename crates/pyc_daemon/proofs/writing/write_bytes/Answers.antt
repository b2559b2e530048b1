use Rattle.std.proofs.Common.{◌∙◌, ◌++◌, ap, refl, sym, take, arith, rules}
use Rattle.std.proofs.lemmas.Grind.{common_steps}
use Rattle.std.proofs.lemmas.List.{take-append-drop}
use Rattle.std.proofs.lemmas.Result.{err_from_is_err_and}
use Rattle.pyc_daemon.proofs.Going.{written_none, written_on, written_part}
use Rattle.pyc_daemon.proofs.Moving.{sound_none, sound_trans, write_fault}
use Rattle.pyc_session.proofs.CommandWords.{take_rest}
use Rattle.pyc_daemon.proofs.writing.write_bytes.Goals as goal

pub loop-rest-init : goal.loop-rest-init
loop-rest-init g c = record { sound = sound_none _; buffers = refl; written = written_none _ _ }

pub loop-rest-preserved : goal.loop-rest-preserved
loop-rest-preserved g c =
    let count = c.in_ok-count.count in
    let rest = c.loop-rest.rest.now in
    record {
      sound = sound_trans _ _ _ c.loop-rest.invariant.sound c.in_ok-count.ensures.sound;
      buffers = c.in_ok-count.ensures.buffers ∙ c.loop-rest.invariant.buffers;
      written = written_on _ _ _ _ _ _ (take count rest) c.loop-rest.invariant.written c.in_ok-count.ensures.ok
          (sym (take-append-drop count rest) ∙ ap (λ zs. take count rest ++ zs) (sym (take_rest count rest)));
    }

pub returns-in_err-count-clause-part : goal.returns-in_err-count-clause-part
returns-in_err-count-clause-part g c =
    let p = err_from_is_err_and c.from_residual.result c.from_residual.ensures.1 in
    rw p.1 (written_part _ _ _ _ _ c.loop-rest.invariant.written c.in_err-count.ensures.none (first_of (grind (arith, common_steps, c.loop-rest-test.true, c.is_empty.ensures), omega (arith, c.loop-rest-test.true, c.is_empty.ensures), search rules)))

pub returns-in_err-count-clause-cause : goal.returns-in_err-count-clause-cause
returns-in_err-count-clause-cause g c =
    let p = err_from_is_err_and c.from_residual.result c.from_residual.ensures.1 in
    rw p.1 (write_fault _ _ _ c.loop-rest.invariant.sound c.in_err-count.ensures.cause)

pub returns-clause-sound : goal.returns-clause-sound
returns-clause-sound g c = c.loop-rest.invariant.sound
