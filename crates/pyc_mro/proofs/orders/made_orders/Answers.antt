use Rattle.std.proofs.Common.{◌≡◌, ◌+◌, suc, sym, ap, ◌∙◌, replicate, None, length, arith}
use Rattle.std.proofs.lemmas.Bool.{not-true}
use Rattle.pyc_mro.specs.TableView.{table_in}
use Rattle.pyc_mro.proofs.PassLemmas.{AreMade-none, AreMade-more, AreMade-all}
use Rattle.pyc_mro.proofs.SearchLemmas.{table-long}
use Rattle.pyc_mro.proofs.orders.made_orders.Goals as goal
use Rattle.pyc_mro.proofs.orders.made_orders.Goals.{else-loop-depth-test, then-loop-depth-test+in_ok-pass+else-not-pass+else-depth-depth-end}

pub loop-depth-init : goal.loop-depth-init
loop-depth-init c =
    AreMade-none (table_in c.args.bases.now) c.in_ok-made.made.items (c.in_ok-made.ensures ∙ ap (λ n. replicate n None) (sym (table-long c.args.bases.now)))

pub returns-then-not-pass : goal.returns-then-not-pass
returns-then-not-pass c =
    let pass = c.in_ok-pass.pass in
    let next = rw c.deref.ensures.value at c.in_ok-pass.ensures in
    AreMade-all (table_in c.args.bases.now) c.loop-depth.depth c.loop-depth.made.items pass.orders.items pass.has_new c.loop-depth.invariant next
    (not-true pass.has_new c.if-not-pass.true) _ (omega (arith, table-long c.args.bases.now))

pub loop-depth-preserved : goal.loop-depth-preserved
loop-depth-preserved c =
    let pass = c.in_ok-pass.pass in
    let next = rw c.deref.ensures.value at c.in_ok-pass.ensures in
    AreMade-more (table_in c.args.bases.now) c.loop-depth.depth c.loop-depth.made.items pass.orders.items pass.has_new c.loop-depth.invariant next

pub returns : goal.returns
returns c =
    elim c.loop-depth-test.branch [
      | else-loop-depth-test w ↦ absurd (omega (arith, w.loop-depth-test.false, c.loop-depth.auto.depth-end))
      | then-loop-depth-test+in_ok-pass+else-not-pass+else-depth-depth-end w ↦
          let table = table_in c.args.bases.now in
          let pass = w.in_ok-pass.pass in
          let next = rw w.deref.ensures.value at w.in_ok-pass.ensures in
          let whole : c.loop-depth.depth + 1 ≡ suc (length table) = omega (arith, table-long c.args.bases.now) in
          let more = AreMade-more table c.loop-depth.depth c.loop-depth.made.items pass.orders.items pass.has_new c.loop-depth.invariant next in
          rw w.made-is (rw whole at more)
    ]
