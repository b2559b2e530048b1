use Rattle.std.proofs.Common.{◌≡◌, drop, map}
use Rattle.pyc_reading.specs.Owing.{row_reported}
use Rattle.pyc_obligations.proofs.owing.report_row.Given as goal

-- nothing was reported, and what is left comes to the same as all
abbrev pub invariant-loop-required : goal.invariant-loop-required
invariant-loop-required g l =
    (g.N.Ask.trace l.recorder ≡ g.N.Ask.trace l.fn.recorder)
    × (row_reported (g.N.Ask.trace l.fn.recorder).answers (map g.O.AsObligation.obligation (drop l.required-index l.row))
    ≡ row_reported (g.N.Ask.trace l.fn.recorder).answers (map g.O.AsObligation.obligation l.row))
