use Rattle.std.proofs.Common.{map, drop, []}
use Rattle.pyc_ast.specs.ExprView.{dict_item_of}
use Rattle.pyc_displays.specs.Displays.{more_entries}
use Rattle.pyc_displays.specs.Views.{entry_types_in}
use Rattle.pyc_reading.specs.Traces.{Going}
use Rattle.pyc_displays.proofs.dicts.read_entries.Given as goal

-- what is left to do comes to the same as all
abbrev pub invariant-loop-item : goal.invariant-loop-item
invariant-loop-item g l =
    Going (more_entries (g.R.InferType.reads l.reader) (entry_types_in l.types) (map dict_item_of (drop l.item-index l.items))) (g.N.Ask.trace l.recorder)
    (more_entries (g.R.InferType.reads l.reader) (record { keys = []; values = [] }) (map dict_item_of l.items)) (g.N.Ask.trace l.fn.recorder)
