use Rattle.std.proofs.Common.{◌≡◌, ap, map, ◌∙◌}
use Rattle.pyc_names.specs.SourceFileView.{source_in}
use Rattle.pyc_reuse.specs.SharedChecks.{found_of}
use Rattle.pyc_reuse.specs.Shown.{flagged, is_shown}
use Rattle.pyc_reuse.proofs.ShownLemmas.{shown_are}
use Rattle.pyc_workspace.proofs.FreshLemmas.{messages_from}
use Rattle.pyc_reuse.proofs.file_result.FileResult.new.Goals as goal

pub returns-clause-messages : goal.returns-clause-messages
returns-clause-messages c =
    let found = found_of c.args.checks.items in
    let source = source_in c.source.result.now.value in
    messages_from _ _ found _ source
    (ap (flagged found) (c.in_ok-flags.ensures ∙ (λ t. map (is_shown (source_in (c.deref-2.ensures t)).outcome) (found_of (c.deref-3.ensures.value t))))
    ∙ shown_are source.outcome found)
    c.source.ensures
