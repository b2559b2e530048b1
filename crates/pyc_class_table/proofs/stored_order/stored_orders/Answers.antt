use Rattle.std.proofs.Common.{◌≡◌, ◌+◌, length, map, ap, ◌∙◌}
use Rattle.std.proofs.lemmas.List.{length_push}
use Rattle.pyc_mro.specs.MroView.{order_at}
use Rattle.pyc_mro.proofs.PassLemmas.{each_more}
use Rattle.pyc_class_table.specs.ClassMros.{order_by, undeclared}
use Rattle.pyc_class_table.specs.EntryView.{entry_in}
use Rattle.pyc_class_table.specs.MroView.{stored_in}
use Rattle.pyc_class_table.proofs.stored_order.stored_orders.Goals as goal

pub loop-number-preserved : goal.loop-number-preserved
loop-number-preserved c =
    let entries = map entry_in c.args.entries.now in
    let orders = c.args.orders.now in
    let number = c.loop-number.number in
    let order = c.in_ok-stored_order.field-0 in
    let stored = c.loop-number.stored.items in
    let here = c.in_ok-stored_order.ensures ∙ ap (order_by entries) c.order.ensures in
    record {
      count = ap length c.in_ok-push.ensures.items ∙ length_push stored order ∙ ap (λ n. n + 1) c.loop-number.invariant.count;
      each = each_more stored_in undeclared (λ k o. o ≡ order_by entries (order_at orders k)) stored _ order number c.loop-number.invariant.count c.in_ok-push.ensures.items c.loop-number.invariant.each here;
    }
