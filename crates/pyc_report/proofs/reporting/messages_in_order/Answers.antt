use Rattle.std.proofs.Common.{◌≡◌, ◌∙◌, ap, map, flat_map, arith, take, take_all}
use Rattle.pyc_report.specs.Sort.{sorted}
use Rattle.pyc_report.specs.Report.{messages_in_order, message_cmp, located_messages, found_in}
use Rattle.pyc_report.proofs.reporting.messages_in_order.Goals as goal

pub returns : goal.returns
unfolding messages_in_order
returns c =
    let whole : take c.loop-file.file-index c.args.found.now ≡ c.args.found.now = take_all _ _ (omega arith) in
    c.in_ok-sort.ensures ∙ ap (sorted message_cmp) (c.loop-file.invariant ∙ ap (λ found. flat_map located_messages (map found_in found)) whole)
