use Rattle.std.proofs.Common.{map, drop}
use Rattle.pyc_operators.specs.Results.{pairs_of_left}
use Rattle.pyc_operators.specs.ResultsView.{results_of}
use Rattle.pyc_reading.specs.Traces.{Going}
use Rattle.pyc_type_forms.specs.TypeView.{ty_of}
use Rattle.pyc_operators.proofs.results.Pairs.pairs_of_left.Given as goal

-- what is left to do comes to the same as all
abbrev pub invariant-loop-right : goal.invariant-loop-right
invariant-loop-right g l =
    Going (pairs_of_left (g.C.CallsMethods.caller l.self.caller.now) l.self.operation (results_of l.results) (ty_of l.left) (map ty_of (drop l.right-index l.rights))) (g.N.Ask.trace l.recorder)
    (pairs_of_left (g.C.CallsMethods.caller l.self.caller.now) l.self.operation (results_of l.fn.before) (ty_of l.left) (map ty_of l.rights)) (g.N.Ask.trace l.fn.recorder)
