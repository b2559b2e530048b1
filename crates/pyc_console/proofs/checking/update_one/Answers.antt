use Rattle.pyc_console.proofs.CheckFilesLemmas.{one_accepted, one_refused, reported_result}
use Rattle.pyc_console.proofs.checking.update_one.Goals as goal

pub returns-in-Ok-clause-update : goal.returns-in-Ok-clause-update
returns-in-Ok-clause-update g c =
    let reported = rw c.as_bytes.ensures.value at c.update.ensures.reported in
    (reported.0, reported.1, one_accepted _ _ _ _ _ _ (reported_result _ _ _ _ reported.2 c.in-Ok.is))

pub returns-in-Err-clause-update : goal.returns-in-Err-clause-update
returns-in-Err-clause-update g c =
    let reported = rw c.as_bytes.ensures.value at c.update.ensures.reported in
    (reported.0, reported.1, one_refused _ _ _ _ _ _ _ _ c.in-Err.why _ (reported_result _ _ _ _ reported.2 c.in-Err.is) (rw c.text.ensures at c.report_refusal.ensures.reports) c.is_untold.ensures)
