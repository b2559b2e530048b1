use Rattle.std.proofs.Common.{map, drop}
use Rattle.pyc_ast.specs.Exprs.{comparisons}
use Rattle.pyc_ast.specs.ExprView.{comparison_of}
use Rattle.pyc_expr_forms.specs.Operations.{infer_comparisons}
use Rattle.pyc_places.specs.StateView.{state_of}
use Rattle.pyc_reading.specs.Traces.{Going}
use Rattle.pyc_type_forms.specs.TypeView.{ty_of}
use Rattle.pyc_expr_forms.proofs.operations.infer_comparisons.Given as goal

-- what is left to do comes to the same as all
abbrev pub invariant-loop-link : goal.invariant-loop-link
invariant-loop-link g l =
    Going (infer_comparisons (g.P.InferValue.parts l.parts) (state_of l.state) l.at (ty_of l.left) (comparisons (map comparison_of (drop l.link-index l.rest)))) (g.N.Ask.trace l.recorder)
    (infer_comparisons (g.P.InferValue.parts l.parts) (state_of l.state) l.at (ty_of l.fn.first) (comparisons (map comparison_of l.rest))) (g.N.Ask.trace l.fn.recorder)
