use Rattle.std.proofs.Common.{◌≡◌, ◌++◌, Bor, map, take}
use Rattle.pyc_report.specs.declared.message.Message.{Message as MessageOf}
use Rattle.pyc_report.specs.Message.{message_in}
use Rattle.pyc_report.specs.Report.{placed_in, located}
use Rattle.pyc_report.proofs.reporting.push_messages.Given as goal

abbrev pub invariant-loop-message : goal.invariant-loop-message
invariant-loop-message l =
    map placed_in l.messages.items
    ≡ map placed_in l.initial.messages.items ++ map (located l.found.path.now) (map (λ (message : Bor MessageOf). message_in message.now) (take l.message-index l.message-items))
