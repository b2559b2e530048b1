use Rattle.std.proofs.Common.{ap, ◌∙◌}
use Rattle.pyc_recorder.specs.CheckedView.{messages_of}
use Rattle.pyc_reuse.proofs.ShownLemmas.{flagged-check}
use Rattle.pyc_reuse.proofs.file_result.FileResult.reported.Goals as goal

pub loop-check-preserved : goal.loop-check-preserved
loop-check-preserved c =
    flagged-check c.deref-check-items.result.now c.loop-check.check-index c.check-item.result c.loop-check-test.true c.check-item.is
    c.messages.result.now (c.messages.ensures ∙ ap messages_of c.deref.ensures) _ _ _ c.loop-check.flags.now c.in_ok-flags.flags.now
    c.in_ok-flags.ensures.messages c.in_ok-flags.ensures.rest c.loop-check.invariant
