use Rattle.std.proofs.Common.{◌∙◌}
use Rattle.pyc_obligations.proofs.OwingLemmas.{asks_both}
use Rattle.pyc_reading.specs.Traces.{all_noted}
use Rattle.pyc_reading.specs.Owing.{pair_keys}
use Rattle.pyc_obligations.proofs.owing.ask.Goals as goal

pub returns : goal.returns
returns g c =
    asks_both _ _ _ _ _ _ (c.in_ok-ask_types.ensures.done ∙ (λ i. all_noted (g.N.Ask.trace c.args.recorder.now) (pair_keys (c.got.ensures i) (c.want.ensures i)))) c.ask_types.ensures.grown c.ask_details.ensures
