use Rattle.std.proofs.Common.{◌≡◌, map, take, string_bytes}
use Rattle.pyc_report.specs.Report.{placed_in, lines_of}
use Rattle.pyc_report.proofs.reporting.printed_lines.Given as goal

abbrev pub invariant-loop-message : goal.invariant-loop-message
invariant-loop-message l = map string_bytes l.lines.keys ≡ lines_of (map placed_in (take l.message-index l.messages))
