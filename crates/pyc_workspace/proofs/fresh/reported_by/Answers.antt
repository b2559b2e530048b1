use Rattle.std.proofs.Common.{map, sym, ap, ◌∙◌}
use Rattle.std.proofs.lemmas.List.{map-append}
use Rattle.pyc_recorder.specs.CheckedView.{messages_of}
use Rattle.pyc_workspace.specs.declared.file.File.{File as FileOf}
use Rattle.pyc_workspace.specs.Files.{file_in}
use Rattle.pyc_workspace.specs.Fresh.{reported_of}
use Rattle.pyc_workspace.proofs.FreshLemmas.{reported_more}
use Rattle.pyc_workspace.specs.ReportedView.{reported_in}
use Rattle.pyc_workspace.proofs.fresh.reported_by.Goals as goal

pub loop-file-preserved : goal.loop-file-preserved
loop-file-preserved c =
    let same = c.deref-in-loop-file.ensures ∙ sym c.deref.ensures in
    let reported = c.in_ok-reported.ensures ∙ ap (λ (f : FileOf). reported_of (file_in f) (map messages_of c.split_checks.result.0.now)) same in
    rw (c.in_ok-push.ensures.items, map-append)
    (reported_more c.args.files.now c.loop-file.file-index c.file-item.result c.deref.result.now c.count_units.result (map reported_in c.loop-file.all.items) _ c.loop-file.rest.now _ _ _
    c.loop-file-test.true c.file-item.is c.deref.ensures c.count_units.ensures c.split_checks.ensures.own c.split_checks.ensures.rest reported c.loop-file.invariant)
