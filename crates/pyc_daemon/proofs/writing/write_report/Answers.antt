use Rattle.std.proofs.lemmas.Result.{err_from_is_err_and}
use Rattle.pyc_daemon.proofs.Going.{part_before, part_after, at_fault}
use Rattle.pyc_daemon.proofs.writing.write_report.Goals as goal

pub returns-in_err-write_bytes-clause-part : goal.returns-in_err-write_bytes-clause-part
returns-in_err-write_bytes-clause-part g c =
    let p = err_from_is_err_and c.from_residual.result c.from_residual.ensures.1 in
    rw p.1 (part_before _ _ _ _ (rw c.as_bytes.ensures.value at c.in_err-write_bytes.ensures.part))

pub returns-clause-part : goal.returns-clause-part
returns-clause-part g c =
    at_fault c.write_bytes-2.result _ _ (λ p. part_after _ _ _ _ _ (rw c.as_bytes.ensures.value at c.in_ok-write_bytes.ensures.ok) p)
    (rw (c.as_bytes-2.ensures.value, c.status_line.ensures) at c.write_bytes-2.ensures.part)
