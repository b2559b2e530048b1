use Rattle.std.proofs.Common.{◌≡◌, map, length, take, string_bytes}
use Rattle.std.specs.List.{concat}
use Rattle.pyc_report.specs.Report.{placed_in, printed_line}
use Rattle.pyc_report.proofs.reporting.all_lines.Given as goal

-- the lines so far, and their lengths
abbrev pub invariant-loop-message : goal.invariant-loop-message
invariant-loop-message l =
    (string_bytes l.text ≡ concat (map printed_line (map placed_in (take l.message-index l.message-items))))
    × (l.lengths.items ≡ map length (map printed_line (map placed_in (take l.message-index l.message-items))))
