use Rattle.std.proofs.Common.{◌≡◌, ◌∙◌, [], ◌∷◌, sym, ap, true, false}
use Rattle.pyc_obligations.proofs.OwingLemmas.{reported_turn, reported_first, keeps_same}
use Rattle.pyc_reading.specs.Owing.{holds, message_by, orders_by}
use Rattle.pyc_obligations.proofs.owing.report_row.Goals as goal

pub returns-then-not-holds : goal.returns-then-not-holds
returns-then-not-holds g c =
    let start = g.N.Ask.trace c.args.recorder.now in
    let view = g.O.AsObligation.obligation in
    let x = c.required-item.result in
    let fails : holds start.answers (view x) ≡ false =
    ap (λ d. holds d.answers (view x)) (sym c.loop-required.invariant.0) ∙ sym c.holds.ensures ∙ c.if-not-holds.true in
    keeps_same _ _ _ _ _ _
    (ap (λ m. m ∷ []) c.in_ok-message.ensures
    ∙ ap (λ d. message_by (orders_by d.answers) (view x) ∷ []) c.loop-required.invariant.0
    ∙ reported_first view start.answers c.args.row.now c.loop-required.required-index x _ c.loop-required-test.true c.required-item.is fails c.loop-required.invariant.1)
    c.loop-required.invariant.0 c.report.ensures

pub loop-required-preserved : goal.loop-required-preserved
loop-required-preserved g c =
    let start = g.N.Ask.trace c.args.recorder.now in
    let view = g.O.AsObligation.obligation in
    let x = c.required-item.result in
    let goes : holds start.answers (view x) ≡ true =
    ap (λ d. holds d.answers (view x)) (sym c.loop-required.invariant.0) ∙ sym c.holds.ensures ∙ c.if-not-holds.false in
    (c.loop-required.invariant.0, reported_turn view start.answers c.args.row.now c.loop-required.required-index x _ c.loop-required-test.true c.required-item.is goes c.loop-required.invariant.1)
