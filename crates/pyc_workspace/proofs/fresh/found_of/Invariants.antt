use Rattle.std.proofs.Common.{◌≡◌, map, take}
use Rattle.pyc_report.specs.Report.{found_in}
use Rattle.pyc_workspace.specs.ReportedView.{reported_in}
use Rattle.pyc_workspace.proofs.fresh.found_of.Given as goal

-- those so far are what is reported so far
abbrev pub invariant-loop-one : goal.invariant-loop-one
invariant-loop-one l = map found_in l.all.items ≡ map reported_in (take l.one-index l.reported)
