use Rattle.std.proofs.Common.{◌≡◌, ◌++◌, map, take}
use Rattle.pyc_report.specs.Message.{message_in}
use Rattle.pyc_body.proofs.suppressing.push_copies.Given as goal

abbrev pub invariant-loop-message : goal.invariant-loop-message
invariant-loop-message l =
    map message_in l.messages.items ≡ map message_in l.initial.messages.items ++ map message_in (take l.message-index l.more)
