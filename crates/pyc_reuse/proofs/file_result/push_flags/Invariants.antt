use Rattle.std.proofs.Common.{◌≡◌, ◌++◌, map, take}
use Rattle.pyc_names.specs.SourceFileView.{source_in}
use Rattle.pyc_report.specs.Message.{message_in}
use Rattle.pyc_reuse.specs.Shown.{is_shown}
use Rattle.pyc_reuse.proofs.file_result.push_flags.Given as goal

-- the flags so far
abbrev pub invariant-loop-message : goal.invariant-loop-message
invariant-loop-message l =
    l.flags.items ≡ l.initial.flags.items ++ map (is_shown (source_in l.file).outcome) (map message_in (take l.message-index l.messages))
