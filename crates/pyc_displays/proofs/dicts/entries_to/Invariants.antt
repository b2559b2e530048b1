use Rattle.std.proofs.Common.{map, drop}
use Rattle.pyc_ast.specs.ExprView.{dict_item_of}
use Rattle.pyc_displays.specs.Displays.{entries_to}
use Rattle.pyc_displays.specs.Views.{entry_in}
use Rattle.pyc_reading.specs.Traces.{Going}
use Rattle.pyc_displays.proofs.dicts.entries_to.Given as goal

-- what is left to do comes to the same as all
abbrev pub invariant-loop-index : goal.invariant-loop-index
invariant-loop-index g l =
    Going (entries_to (g.R.InferType.reads l.reader) (entry_in l.want) l.index (map dict_item_of (drop l.index l.items))) (g.N.Ask.trace l.recorder)
    (entries_to (g.R.InferType.reads l.reader) (entry_in l.want) 0 (map dict_item_of l.items)) (g.N.Ask.trace l.fn.recorder)
