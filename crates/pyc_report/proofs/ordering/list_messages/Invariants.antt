use Rattle.std.proofs.Common.{◌≡◌, ◌++◌, map}
use Rattle.pyc_report.specs.Message.{message_in}
use Rattle.pyc_report.proofs.ordering.list_messages.Given as goal

-- the messages so far, with those that are left, are all
abbrev pub invariant-loop-message : goal.invariant-loop-message
invariant-loop-message l = map message_in l.messages.items ++ l.message-iterator ≡ l.fn.printed.keys
