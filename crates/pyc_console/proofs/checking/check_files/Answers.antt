use Rattle.pyc_console.proofs.CheckFilesLemmas.{checks, checks_whole, sound_after}
use Rattle.pyc_console.proofs.checking.check_files.Goals as goal

pub returns-clause-checks : goal.returns-clause-checks
returns-clause-checks g c =
    checks _ _ _ _ _ _ _ _ _ _ _ _ _ _ _ _ _ _ _ c.requires.unreported.0 c.requires.unreported.1 (rw c.new-daemon.ensures at c.update_all-updates.ensures.updates)
    c.print_report-answer.ensures.told c.print_report-answer.ensures.prints c.report_end.ensures.reports

pub returns-clause-whole : goal.returns-clause-whole
returns-clause-whole g c sound =
    checks_whole _ _ _ _ _ _ c.requires.unreported.0 c.requires.unreported.1
    (checks _ _ _ _ _ _ _ _ _ _ _ _ _ _ _ _ _ _ _ c.requires.unreported.0 c.requires.unreported.1 (rw c.new-daemon.ensures at c.update_all-updates.ensures.updates)
    c.print_report-answer.ensures.told c.print_report-answer.ensures.prints c.report_end.ensures.reports)
    sound

pub returns-clause-sound : goal.returns-clause-sound
returns-clause-sound g c =
    sound_after _ _ _ _ _ _
    (checks _ _ _ _ _ _ _ _ _ _ _ _ _ _ _ _ _ _ _ c.requires.unreported.0 c.requires.unreported.1 (rw c.new-daemon.ensures at c.update_all-updates.ensures.updates)
    c.print_report-answer.ensures.told c.print_report-answer.ensures.prints c.report_end.ensures.reports)
