use Rattle.pyc_reading.proofs.RunLemmas.{keeps_reports}
use Rattle.pyc_reading.proofs.reporting.report_line.Goals as goal

pub returns : goal.returns
returns g c = keeps_reports _ _ _ _ _ c.error_on_line.ensures c.report.ensures
