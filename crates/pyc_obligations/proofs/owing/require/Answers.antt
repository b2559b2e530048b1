use Rattle.std.proofs.Common.{[], ◌∷◌}
use Rattle.pyc_obligations.proofs.OwingLemmas.{requires_row, one_row}
use Rattle.pyc_obligations.proofs.owing.require.Goals as goal

pub returns : goal.returns
returns g c =
    let o = g.O.AsObligation.obligation c.args.required.now in
    requires_row (o ∷ []) _ _ _ _ (one_row o (g.N.Ask.trace c.args.recorder.now) _ c.in_ok-ask.ensures.done) c.ask.ensures.grown c.report_unless.ensures
