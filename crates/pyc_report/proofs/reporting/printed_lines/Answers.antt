use Rattle.std.proofs.Common.{◌∙◌, ap, string_bytes, map}
use Rattle.std.proofs.lemmas.List.{map-append}
use Rattle.pyc_report.specs.Report.{printed_line, placed_in}
use Rattle.pyc_report.specs.declared.reporting.Placed.{Placed as PlacedOf}
use Rattle.pyc_report.proofs.RepeatLemmas.{without_repeats-more, map-take_more}
use Rattle.pyc_report.proofs.reporting.printed_lines.Goals as goal

pub loop-message-preserved : goal.loop-message-preserved
loop-message-preserved c =
    without_repeats-more string_bytes (λ messages. map printed_line (map placed_in messages)) c.args.messages.now c.loop-message.message-index
    c.loop-message.lines.keys c.insert.new.self.keys c.in_ok-printed_line.field-0 _ c.in_ok-insert.ensures.keys (c.in_ok-printed_line.ensures ∙ ap printed_line c.located.ensures ∙ ap (λ (m : PlacedOf). printed_line (placed_in m)) c.message-item.is) c.loop-message.invariant
    (ap (map printed_line) (map-take_more placed_in c.args.messages.now c.loop-message.message-index c.message-item.result c.loop-message-test.true) ∙ map-append printed_line _ _)
