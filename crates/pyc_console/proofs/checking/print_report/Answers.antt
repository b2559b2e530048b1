use Rattle.pyc_report.specs.Report.{report_in}
use Rattle.pyc_console.proofs.CheckFilesLemmas.{prints_part}
use Rattle.pyc_console.proofs.checking.print_report.Goals as goal

pub returns-clause-prints : goal.returns-clause-prints
returns-clause-prints g c =
    prints_part _ _ _ _ _ _ (report_in c.in-Ok.report) c.args.updates.refused c.in-Ok.ensures.fresh c.in-Err.ensures.cause (rw c.as_bytes.ensures.value at c.in-Err.ensures.part)
