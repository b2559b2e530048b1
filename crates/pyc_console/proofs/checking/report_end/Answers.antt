use Rattle.pyc_console.proofs.CheckFilesLemmas.{writes_nothing}
use Rattle.pyc_console.proofs.checking.report_end.Goals as goal

pub returns-in-Err-clause-reports : goal.returns-in-Err-clause-reports
returns-in-Err-clause-reports g c = rw c.in-Err.is c.report_fault.ensures.reports

pub returns-in_default-clause-reports : goal.returns-in_default-clause-reports
returns-in_default-clause-reports g c = rw c.in_default.is (writes_nothing _ _)
