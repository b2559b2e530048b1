use Rattle.std.proofs.Common.{◌≡◌, ◌++◌, Bor, drop, length, map}
use Rattle.pyc_report.specs.declared.message.Message.{Message as MessageOf}
use Rattle.pyc_report.specs.Message.{message_in}
use Rattle.pyc_reuse.specs.Shown.{flagged}
use Rattle.pyc_reuse.proofs.file_result.push_flagged.Given as goal

-- the messages so far, with those of the rest whose flags are set, are all, and so it is with the flags after them
abbrev pub invariant-loop-message : goal.invariant-loop-message
invariant-loop-message l =
    let seen = map (λ (message : Bor MessageOf). message_in message.now) in
    (seen l.all.items ++ flagged (map message_in (drop l.message-index l.messages)) l.rest
    ≡ seen l.initial.all.items ++ flagged (map message_in l.messages) l.flags)
    × (drop (length (drop l.message-index l.messages)) l.rest ≡ drop (length l.messages) l.flags)
