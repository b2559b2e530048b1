use Rattle.std.proofs.Common.{map, drop, []}
use Rattle.pyc_ast.specs.Exprs.{elements}
use Rattle.pyc_ast.specs.ExprView.{element_of}
use Rattle.pyc_narrowing.specs.Splitting.{more_classes}
use Rattle.pyc_places.specs.StateView.{state_of}
use Rattle.pyc_reading.specs.Traces.{Going}
use Rattle.pyc_narrowing.proofs.classes.item_classes.Given as goal

-- what is left to do comes to the same as all
abbrev pub invariant-loop-item : goal.invariant-loop-item
invariant-loop-item g l =
    Going (more_classes (g.L.InferOperand.looks l.looks) (state_of l.state) l.classes.items (elements (map element_of (drop l.item-index l.items)))) (g.N.Ask.trace l.recorder)
    (more_classes (g.L.InferOperand.looks l.looks) (state_of l.state) [] (elements (map element_of l.items))) (g.N.Ask.trace l.fn.recorder)
