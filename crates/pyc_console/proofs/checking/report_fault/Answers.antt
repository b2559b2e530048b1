use Rattle.pyc_console.proofs.checking.report_fault.Goals as goal

pub returns-in-Memory-clause-reports : goal.returns-in-Memory-clause-reports
returns-in-Memory-clause-reports g c = rw c.in-Memory.is (rw c.text.ensures at c.print_parts.ensures.reports)

pub returns-in-Write-clause-reports : goal.returns-in-Write-clause-reports
returns-in-Write-clause-reports g c = rw c.in-Write.is (rw c.text-in-Write.ensures at c.print_parts-in-Write.ensures.reports)
