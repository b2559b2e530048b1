use Rattle.std.proofs.Common.{map, drop}
use Rattle.pyc_ast.specs.ExprView.{element_of}
use Rattle.pyc_displays.specs.Displays.{check_item_types}
use Rattle.pyc_reading.specs.Traces.{Going}
use Rattle.pyc_type_forms.specs.TypeView.{ty_of}
use Rattle.pyc_displays.proofs.lists.check_item_types.Given as goal

-- what is left to do comes to the same as all
abbrev pub invariant-loop-index : goal.invariant-loop-index
invariant-loop-index g l =
    Going (check_item_types (g.R.InferType.reads l.reader) (ty_of l.want) l.index (map element_of (drop l.index l.items))) (g.N.Ask.trace l.recorder)
    (check_item_types (g.R.InferType.reads l.reader) (ty_of l.want) 0 (map element_of l.items)) (g.N.Ask.trace l.fn.recorder)
