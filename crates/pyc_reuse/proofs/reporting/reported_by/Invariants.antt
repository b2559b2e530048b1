use Rattle.std.proofs.Common.{◌≡◌, ◌++◌, drop, map}
use Rattle.std.specs.declared.alloc.Global.{Global}
use Rattle.std.specs.declared.rc.Rc.{Rc}
use Rattle.pyc_report.specs.Report.{found_in}
use Rattle.pyc_reuse.specs.declared.file_result.FileResult.{FileResult as FileResultOf}
use Rattle.pyc_reuse.specs.FileResultView.{reported_in}
use Rattle.pyc_reuse.specs.Reports.{reported_by}
use Rattle.pyc_workspace.specs.Files.{files_in}
use Rattle.pyc_reuse.proofs.reporting.reported_by.Given as goal

-- what is reported so far, with what is reported of the files that are left, is all
abbrev pub invariant-loop-index : goal.invariant-loop-index
invariant-loop-index l =
    map found_in l.all.items ++ reported_by (files_in (drop l.index l.files)) (map (λ (r : Rc FileResultOf Global). reported_in r.value) (drop l.index l.file_results))
    ≡ reported_by (files_in l.files) (map (λ (r : Rc FileResultOf Global). reported_in r.value) l.file_results)
