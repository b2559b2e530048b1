use Rattle.std.proofs.Common.{◌≡◌, ◌++◌, drop, map}
use Rattle.pyc_recorder.specs.CheckedView.{messages_of}
use Rattle.pyc_workspace.specs.Files.{files_in}
use Rattle.pyc_workspace.specs.Fresh.{reported_by}
use Rattle.pyc_workspace.specs.ReportedView.{reported_in}
use Rattle.pyc_workspace.proofs.fresh.reported_by.Given as goal

-- what is reported so far, with what is reported of the files that are left, is all
abbrev pub invariant-loop-file : goal.invariant-loop-file
invariant-loop-file l =
    map reported_in l.all.items ++ reported_by (files_in (drop l.file-index l.files)) (map messages_of l.rest)
    ≡ reported_by (files_in l.files) (map messages_of l.fn.checks)
