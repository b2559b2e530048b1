use Rattle.pyc_obligations.proofs.OwingLemmas.{ask_turn}
use Rattle.pyc_reading.proofs.RunLemmas.{grown_trans}
use Rattle.pyc_obligations.proofs.owing.ask_row.Goals as goal

pub loop-required-preserved : goal.loop-required-preserved
loop-required-preserved g c = (
  ask_turn g.O.AsObligation.obligation c.args.row.now c.loop-required.required-index c.required-item.result _ _ _ c.loop-required-test.true c.required-item.is c.in_ok-ask.ensures.done c.loop-required.invariant.0,
  grown_trans c.loop-required.invariant.1 c.ask.ensures.grown,
)
