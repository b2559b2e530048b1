use Rattle.std.proofs.Common.{map, drop, []}
use Rattle.pyc_subscripts.specs.Iteration.{infer_more_parts}
use Rattle.pyc_reading.specs.Traces.{Going}
use Rattle.pyc_type_forms.specs.TypeView.{ty_of}
use Rattle.pyc_subscripts.proofs.iterating.all_parts.Given as goal

-- what is left to do comes to the same as all
abbrev pub invariant-loop-item : goal.invariant-loop-item
invariant-loop-item g l =
    Going (infer_more_parts l.at (ty_of l.whole) (map ty_of l.found.items) (map ty_of (drop l.item-index l.items))) (g.N.Ask.trace l.recorder)
    (infer_more_parts l.at (ty_of l.whole) [] (map ty_of l.items)) (g.N.Ask.trace l.fn.recorder)
