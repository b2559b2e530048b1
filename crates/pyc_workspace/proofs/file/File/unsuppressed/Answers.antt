use Rattle.std.proofs.Common.{List, flat_map, ap, ◌∙◌}
use Rattle.pyc_body.specs.FoundMessages.{without_ignored}
use Rattle.pyc_recorder.specs.CheckedView.{messages_of}
use Rattle.pyc_names.specs.SourceFileView.{source_in}
use Rattle.pyc_report.specs.Message.{Message}
use Rattle.pyc_workspace.proofs.FreshLemmas.{messages_from}
use Rattle.pyc_workspace.proofs.file.File.unsuppressed.Goals as goal

pub returns : goal.returns
returns c =
    let found : List Message = flat_map messages_of c.args.checks.now in
    messages_from _ _ _ _ _ (c.in_ok-found.ensures ∙ ap (λ f. without_ignored (source_in f).outcome found) c.deref.ensures) c.args.self.now.source_is
