use Rattle.std.proofs.Common.{◌≡◌, ◌++◌, map, flat_map, drop}
use Rattle.pyc_recorder.specs.CheckedView.{messages_of}
use Rattle.pyc_report.specs.Message.{message_in}
use Rattle.pyc_body.proofs.suppressing.messages_of_checks.Given as goal

-- the messages so far, with those of the checks that are left, are all
abbrev pub invariant-loop-check : goal.invariant-loop-check
invariant-loop-check l =
    map message_in l.messages.items ++ flat_map messages_of (drop l.check-index l.checks) ≡ flat_map messages_of l.checks
