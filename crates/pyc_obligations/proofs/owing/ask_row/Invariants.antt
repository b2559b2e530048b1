use Rattle.std.proofs.Common.{◌≡◌, drop, map}
use Rattle.pyc_reading.specs.Traces.{Grown, all_noted}
use Rattle.pyc_reading.specs.Owing.{row_keys}
use Rattle.pyc_obligations.proofs.owing.ask_row.Given as goal

-- what is left to ask comes to the same as all
abbrev pub invariant-loop-required : goal.invariant-loop-required
invariant-loop-required g l =
    (all_noted (g.N.Ask.trace l.recorder) (row_keys (map g.O.AsObligation.obligation (drop l.required-index l.row)))
    ≡ all_noted (g.N.Ask.trace l.fn.recorder) (row_keys (map g.O.AsObligation.obligation l.row)))
    × Grown (g.N.Ask.trace l.fn.recorder) (g.N.Ask.trace l.recorder)
