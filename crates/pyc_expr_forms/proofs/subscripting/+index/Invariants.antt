use Rattle.std.proofs.Common.{map, drop, []}
use Rattle.pyc_ast.specs.Exprs.{indices_of}
use Rattle.pyc_ast.specs.ExprView.{index_of}
use Rattle.pyc_expr_forms.specs.Subscripting.{index_types}
use Rattle.pyc_places.specs.StateView.{state_of}
use Rattle.pyc_reading.specs.Traces.{Going}
use Rattle.pyc_type_forms.specs.TypeView.{ty_of}
use Rattle.pyc_expr_forms.proofs.subscripting.+index.Given as goal

-- what is left to do comes to the same as all
abbrev pub invariant-index_types-loop-index : goal.invariant-index_types-loop-index
invariant-index_types-loop-index g l =
    Going (index_types (g.P.InferValue.parts l.parts) (state_of l.state) (map ty_of l.types.items) (indices_of (map index_of (drop l.index-index l.indices)))) (g.N.Ask.trace l.recorder)
    (index_types (g.P.InferValue.parts l.parts) (state_of l.state) [] (indices_of (map index_of l.indices))) (g.N.Ask.trace l.fn.recorder)
