use Rattle.std.proofs.Common.{ap, ◌∙◌}
use Rattle.pyc_names.specs.declared.source_file.SourceFile.{SourceFile as SourceFileOf}
use Rattle.pyc_names.specs.Interfaces.{interface_of}
use Rattle.pyc_names.specs.SourceFileView.{source_in}
use Rattle.pyc_workspace.proofs.FreshLemmas.{interfaces_more}
use Rattle.pyc_workspace.proofs.fresh.interfaces_of.Goals as goal

pub loop-file-preserved : goal.loop-file-preserved
loop-file-preserved c =
    let reported = c.shared_interface.ensures ∙ ap (λ (f : SourceFileOf). interface_of (source_in f)) c.deref-in-loop-file.ensures in
    rw c.in_ok-push.ensures.items
    (interfaces_more c.args.files.now c.loop-file.file-index c.file-item.result c.deref.result.now c.loop-file.interfaces.items c.in_ok-interface.interface c.shared_interface.result.now.value
    c.source.result.now.value c.loop-file-test.true c.file-item.is c.deref.ensures c.in_ok-interface.ensures.cases reported c.loop-file.invariant c.source.ensures)
