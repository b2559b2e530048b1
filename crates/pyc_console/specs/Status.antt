-- The status with which the program ends after a session, and what it reports of the session's end.
use Rattle.std.specs.Prelude.{ℕ, List, [], Result, Ok, Err}
use Rattle.pyc_session.specs.declared.ending.End.{End}
use Rattle.pyc_session.specs.declared.ending.End.TheVariants.{Stopped, EndOfInput, Broken}
use Rattle.pyc_session.specs.declared.ending.RunFault.{RunFault}
use Rattle.pyc_console.specs.Lines.{fault_line}

-- 0 after a session that ended in order, 2 after one that was cut short
abbrev pub status_of : Result End RunFault → ℕ
status_of (Ok Stopped) = 0
status_of (Ok EndOfInput) = 0
status_of (Ok Broken) = 2
status_of (Err fault) = 2

-- the line on why a session stopped in the middle, `dmypy: TEXT`; nothing where it did not
abbrev pub ending_line : Result End RunFault → List ℕ
ending_line (Ok end) = []
ending_line (Err why) = fault_line why
