use Rattle.std.proofs.Common.{◌≡◌, ◌+◌, length, ◌&&◌, not, is_some, None, false, sym, ap, ◌∙◌}
use Rattle.std.proofs.lemmas.Bool.{false≢true}
use Rattle.std.proofs.lemmas.List.{length_push}
use Rattle.pyc_mro.specs.TableView.{table_in}
use Rattle.pyc_mro.specs.Passes.{made_in, made_at, kept_or_next}
use Rattle.pyc_mro.specs.Tables.{bases_of}
use Rattle.pyc_mro.proofs.PassLemmas.{each_more, made_at-read, kept-same}
use Rattle.pyc_mro.proofs.orders.next_orders.Goals as goal
use Rattle.pyc_mro.proofs.orders.next_orders.Goals.{then-has_new, else-has_new}

pub loop-class-preserved : goal.loop-class-preserved
loop-class-preserved c =
    let made = c.args.made.now in
    let class = c.loop-class.class in
    let order = c.in_ok-order.order in
    let next : made_in order ≡ kept_or_next made class (bases_of (table_in c.args.bases.now) class) =
    c.in_ok-order.ensures ∙ ap (kept_or_next made class) c.bases_of.ensures in
    let read = made_at-read made class c.index-made-class.result c.loop-class-test.true c.index-made-class.is in
    record {
      count = ap length c.in_ok-push.ensures.items ∙ length_push c.loop-class.orders.items order ∙ ap (λ n. n + 1) c.loop-class.invariant.count;
      each = each_more made_in None (λ k o. o ≡ kept_or_next made k (bases_of (table_in c.args.bases.now) k)) c.loop-class.orders.items _ order class c.loop-class.invariant.count c.in_ok-push.ensures.items c.loop-class.invariant.each next;
      same = λ old. elim c.if-has_new.branch [
        | then-has_new w ↦ absurd (false≢true (sym old ∙ w.has_new-is ∙ w.if-has_new.true))
        | else-has_new w ↦
            let none : (is_some (made_in order) && not (is_some (made_at made class))) ≡ false =
            ap (λ o. is_some (made_in order) && not (is_some o)) read ∙ sym c.is_new-is_new.ensures ∙ sym w.has_new-is ∙ old in
            each_more made_in None (λ k o. o ≡ made_at made k) c.loop-class.orders.items _ order class c.loop-class.invariant.count c.in_ok-push.ensures.items (c.loop-class.invariant.same w.if-has_new.false)
            (kept-same (made_at made class) _ (made_in order) next none)
      ];
    }
