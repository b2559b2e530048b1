use Rattle.pyc_reading.proofs.RunLemmas.{keeps_reports}
use Rattle.pyc_reading.proofs.reporting.report_error.Goals as goal

pub returns : goal.returns
returns g c = keeps_reports _ _ _ _ _ c.error_at.ensures c.report.ensures
