use Rattle.std.proofs.Common.{false}
use Rattle.pyc_daemon.proofs.Going.{appends_none}
use Rattle.pyc_daemon.proofs.Moving.{sound_none}
use Rattle.pyc_console.proofs.CheckFilesLemmas.{some_line, writes_by}
use Rattle.pyc_console.proofs.sessions.report_ending.Goals as goal

pub returns-in-Err-clause-reports : goal.returns-in-Err-clause-reports
returns-in-Err-clause-reports g c =
    let w = rw c.text.ensures at c.write_parts.ensures in
    rw c.in-Err.is (writes_by _ _ _ _ _ _ w.ok w.part w.sound w.cause (some_line _))

pub returns-in_default-clause-reports : goal.returns-in_default-clause-reports
returns-in_default-clause-reports g c = rw c.in_default.is (false, (sound_none _, appends_none _))
