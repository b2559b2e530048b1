use Rattle.pyc_report_laws.proofs.FileLemmas.{reports_files}
use Rattle.pyc_report_laws.proofs.laws.report_of_files.Goals as goal

pub returns : goal.returns
returns c = reports_files
