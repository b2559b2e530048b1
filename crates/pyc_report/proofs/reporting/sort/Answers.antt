use Rattle.std.proofs.Common.{rules, is_lt, Bool}
use Rattle.std.specs.Cmp.{IsStrictWeakOrder}
use Rattle.std.proofs.lemmas.List.Sorted.{answers_always, ranks_by}
use Rattle.pyc_report.proofs.OrderLemmas.{message_cmp_total}
use Rattle.pyc_report.proofs.MessageSortLemmas.{seen_sorted}
use Rattle.pyc_report.specs.Report.{message_cmp, placed_in}
use Rattle.pyc_report.specs.declared.reporting.Placed.{Placed as PlacedOf}
use Rattle.pyc_report.proofs.reporting.sort.Goals as goal

pub returns : goal.returns
returns c =
    let less : PlacedOf → PlacedOf → Bool = λ m other. is_lt (message_cmp (placed_in m) (placed_in other)) in
    let weak : IsStrictWeakOrder less = ranks_by message_cmp_total placed_in in
    seen_sorted message_cmp placed_in message_cmp_total _ _
    (c.in_ok-sort_by.ensures.sorted less weak (answers_always _ _ _ (λ f a r g h. search rules)))
    (c.in_ok-sort_by.ensures.stable less weak (answers_always _ _ _ (λ f a r g h. search rules)))
