use Rattle.std.proofs.Common.{map, drop, []}
use Rattle.pyc_ast.specs.ExprView.{element_of}
use Rattle.pyc_displays.specs.Displays.{more_types}
use Rattle.pyc_reading.specs.Traces.{Going}
use Rattle.pyc_type_forms.specs.TypeView.{ty_of}
use Rattle.pyc_displays.proofs.items.read_types.Given as goal

-- what is left to do comes to the same as all
abbrev pub invariant-loop-index : goal.invariant-loop-index
invariant-loop-index g l =
    Going (more_types (g.R.InferType.reads l.reader) (map ty_of l.places) l.index (map ty_of l.types.items) (map element_of (drop l.index l.items))) (g.N.Ask.trace l.recorder)
    (more_types (g.R.InferType.reads l.reader) (map ty_of l.places) 0 [] (map element_of l.items)) (g.N.Ask.trace l.fn.recorder)
