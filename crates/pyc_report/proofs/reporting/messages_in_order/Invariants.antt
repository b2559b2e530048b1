use Rattle.std.proofs.Common.{◌≡◌, map, take, flat_map}
use Rattle.pyc_report.specs.Report.{placed_in, located_messages, found_in}
use Rattle.pyc_report.proofs.reporting.messages_in_order.Given as goal

abbrev pub invariant-loop-file : goal.invariant-loop-file
invariant-loop-file l = map placed_in l.messages.items ≡ flat_map located_messages (map found_in (take l.file-index l.found))
