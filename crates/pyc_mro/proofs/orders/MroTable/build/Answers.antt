use Rattle.std.proofs.Common.{◌≡◌, ◌+◌, ◌<◌, length, inl, inr, sym, ap, ◌∙◌, arith}
use Rattle.std.specs.declared.alloc.Global.{Global}
use Rattle.std.specs.declared.rc.Rc.{Rc}
use Rattle.std.proofs.lemmas.Bool.{cases_lt}
use Rattle.std.proofs.lemmas.List.{length_push}
use Rattle.pyc_mro.specs.declared.stored.StoredMro.{StoredMro}
use Rattle.pyc_mro.specs.MroTable.{Mro, no_order, order_of}
use Rattle.pyc_mro.specs.MroView.{stored_in}
use Rattle.pyc_mro.specs.TableView.{table_in}
use Rattle.pyc_mro.proofs.MroLemmas.{settled-is, order_of-past}
use Rattle.pyc_mro.proofs.PassLemmas.{each_more, at-past, made_at-read}
use Rattle.pyc_mro.proofs.SearchLemmas.{table-long}
use Rattle.pyc_mro.proofs.orders.MroTable.build.Goals as goal

-- the plain order that a shared one is
abbrev shared_in : Rc StoredMro Global → Mro
shared_in order = stored_in order.value

pub loop-class-preserved : goal.loop-class-preserved
loop-class-preserved c =
    let table = table_in c.args.bases.now in
    let made = c.in_ok-made.made.items in
    let class = c.loop-class.class in
    let order = c.in_ok-class_order.field-0 in
    let within : class < length table = omega (arith, table-long c.args.bases.now) in
    let are = c.in_ok-made.ensures in
    let read = made_at-read made class c.index.result.now (let n = are.count in omega arith) c.index.ensures in
    let here = c.in_ok-class_order.ensures ∙ settled-is table class _ within (sym read ∙ are.each class within) in
    record {
      count = ap length c.in_ok-push.ensures.items ∙ length_push c.loop-class.orders.items order ∙ ap (λ n. n + 1) c.loop-class.invariant.count;
      each = each_more shared_in no_order (λ k o. o ≡ order_of table k) c.loop-class.orders.items _ order class c.loop-class.invariant.count c.in_ok-push.ensures.items c.loop-class.invariant.each here;
    }

pub returns : goal.returns
returns c = λ k.
    let table = table_in c.args.bases.now in
    let rows = table-long c.args.bases.now in
    let orders = c.loop-class.orders.items in
    elim (cases_lt k (length table)) [
      | inl within ↦ c.loop-class.invariant.each k (omega arith)
      | inr past ↦
          let long = c.loop-class.invariant.count in
          at-past shared_in no_order orders k (omega arith) ∙ order_of-past table k past
    ]
