use Rattle.std.proofs.Common.{◌≡◌, ◌++◌, Bor, drop, map}
use Rattle.pyc_report.specs.declared.message.Message.{Message as MessageOf}
use Rattle.pyc_report.specs.Message.{message_in}
use Rattle.pyc_reuse.specs.FileResultView.{reported_in}
use Rattle.pyc_reuse.specs.SharedChecks.{found_of}
use Rattle.pyc_reuse.specs.Shown.{flagged}
use Rattle.pyc_reuse.proofs.file_result.FileResult.reported.Given as goal

-- the messages so far, with those of the checks that are left, are all
abbrev pub invariant-loop-check : goal.invariant-loop-check
invariant-loop-check l =
    map (λ (message : Bor MessageOf). message_in message.now) l.messages.items ++ flagged (found_of (drop l.check-index l.check-items)) l.flags ≡ reported_in l.self
