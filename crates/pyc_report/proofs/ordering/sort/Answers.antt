use Rattle.std.proofs.Common.{rules, is_lt, Bool}
use Rattle.std.specs.Cmp.{IsStrictWeakOrder}
use Rattle.std.proofs.lemmas.List.Sorted.{answers_always, ranks_by}
use Rattle.pyc_report.proofs.MessageOrderLemmas.{place_cmp_total}
use Rattle.pyc_report.proofs.MessageSortLemmas.{seen_sorted}
use Rattle.pyc_report.specs.FoundOrder.{place_cmp}
use Rattle.pyc_report.specs.declared.message.Message.{Message as MessageOf}
use Rattle.pyc_report.specs.Message.{message_in}
use Rattle.pyc_report.proofs.ordering.sort.Goals as goal

pub returns : goal.returns
returns c =
    let less : MessageOf → MessageOf → Bool = λ m other. is_lt (place_cmp (message_in m) (message_in other)) in
    let weak : IsStrictWeakOrder less = ranks_by place_cmp_total message_in in
    seen_sorted place_cmp message_in place_cmp_total _ _
    (c.in_ok-sort_by.ensures.sorted less weak (answers_always _ _ _ (λ f a r g h. search rules)))
    (c.in_ok-sort_by.ensures.stable less weak (answers_always _ _ _ (λ f a r g h. search rules)))
