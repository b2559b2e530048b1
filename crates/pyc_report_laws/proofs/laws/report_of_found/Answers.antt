use Rattle.pyc_report_laws.proofs.ReportLemmas.{reports_found}
use Rattle.pyc_report_laws.proofs.laws.report_of_found.Goals as goal

pub returns : goal.returns
returns c = reports_found
