use Rattle.std.proofs.Common.{◌≡◌, Bor, map, take}
use Rattle.pyc_report.specs.declared.message.Message.{Message as MessageOf}
use Rattle.pyc_report.specs.Message.{message_in}
use Rattle.pyc_workspace.proofs.fresh.borrowed.Given as goal

-- those so far are the first messages
abbrev pub invariant-loop-message : goal.invariant-loop-message
invariant-loop-message l = map (λ (message : Bor MessageOf). message_in message.now) l.all.items ≡ map message_in (take l.message-index l.messages)
