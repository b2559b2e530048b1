use Rattle.std.proofs.Common.{map, drop}
use Rattle.pyc_operators.specs.Results.{no_results, pairs_of}
use Rattle.pyc_operators.specs.ResultsView.{results_of}
use Rattle.pyc_reading.specs.Traces.{Going}
use Rattle.pyc_type_forms.specs.TypeView.{ty_of}
use Rattle.pyc_operators.proofs.results.Pairs.pairs_of.Given as goal

-- what is left to do comes to the same as all
abbrev pub invariant-loop-left : goal.invariant-loop-left
invariant-loop-left g l =
    Going (pairs_of (g.C.CallsMethods.caller l.self.caller.now) l.self.operation (results_of l.results) (map ty_of (drop l.left-index l.lefts)) (map ty_of l.rights)) (g.N.Ask.trace l.recorder)
    (pairs_of (g.C.CallsMethods.caller l.self.caller.now) l.self.operation no_results (map ty_of l.lefts) (map ty_of l.rights)) (g.N.Ask.trace l.fn.recorder)
