use Rattle.std.proofs.Common.{◌≡◌, [], map, length}
use Rattle.std.specs.Vec.Iter.{into_iter_items, into_iter_len}
use Rattle.pyc_report.specs.FoundOrder.{with_messages}
use Rattle.pyc_report.specs.Message.{message_in}
use Rattle.pyc_report.proofs.ordering.each_once.Given as goal

-- the messages so far, with those that are left, are all
abbrev pub invariant-loop-message : goal.invariant-loop-message
invariant-loop-message l =
    (with_messages l.printed.keys (map message_in (into_iter_items l.message-iterator)) ≡ with_messages [] (map message_in l.fn.messages.items))
    × (into_iter_len l.message-iterator ≡ length (into_iter_items l.message-iterator))
