use Rattle.std.proofs.Common.{map, drop}
use Rattle.pyc_operators.specs.Results.{no_results}
use Rattle.pyc_operators.specs.ResultsView.{results_of}
use Rattle.pyc_operators.specs.Unary.{each_item}
use Rattle.pyc_reading.specs.Traces.{Going}
use Rattle.pyc_type_forms.specs.TypeView.{ty_of}
use Rattle.pyc_operators.proofs.unary_operator.UnaryReader.each_item.Given as goal

-- what is left to do comes to the same as all
abbrev pub invariant-loop-operand : goal.invariant-loop-operand
invariant-loop-operand g l =
    Going (each_item (g.C.CallsMethods.caller l.self.caller.now) l.self.operation (results_of l.results) (map ty_of (drop l.operand-index l.operands))) (g.N.Ask.trace l.recorder)
    (each_item (g.C.CallsMethods.caller l.self.caller.now) l.self.operation no_results (map ty_of l.operands)) (g.N.Ask.trace l.fn.recorder)
