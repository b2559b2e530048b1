use Rattle.std.proofs.Common.{◌++◌, ◌∙◌, ap, string_bytes}
use Rattle.pyc_report.specs.Report.{Located, placed_in, printed_line}
use Rattle.pyc_report.specs.declared.reporting.Placed.{Placed as PlacedOf}
use Rattle.pyc_report.proofs.ApartLemmas.{text_more, lengths_more, longer}
use Rattle.pyc_report.proofs.reporting.all_lines.Goals as goal

pub loop-message-preserved : goal.loop-message-preserved
loop-message-preserved c =
    let items = c.deref-message-items.result.now in
    let added = c.in_ok-push_line.ensures ∙ ap (λ (line : Located). string_bytes c.loop-message.text ++ printed_line line) c.located.ensures
    ∙ ap (λ (m : PlacedOf). string_bytes c.loop-message.text ++ printed_line (placed_in m)) c.message-item.is in (
      text_more placed_in items c.loop-message.message-index c.message-item.result c.loop-message-test.true _ _ c.loop-message.invariant.0 added,
      lengths_more placed_in items c.loop-message.message-index c.message-item.result c.loop-message-test.true _ _ _ _ _ added
          (longer _ _ _ _ _ added (c.len-before.ensures ∙ c.loop-message.text.bytes.ok.0) (c.len-in-loop-message.ensures ∙ c.push_line.new.text.bytes.ok.0))
          c.loop-message.invariant.1 c.in_ok-push.ensures.items,
    )
