use Rattle.std.proofs.Common.{◌≡◌, map, drop}
use Rattle.std.specs.List.{list_any}
use Rattle.pyc_ast.specs.ExprView.{dict_item_of}
use Rattle.pyc_displays.specs.Displays.{is_unpacking}
use Rattle.pyc_displays.proofs.dicts.has_unpacking.Given as goal

-- the items that are left decide
abbrev pub invariant-loop-item : goal.invariant-loop-item
invariant-loop-item l =
    list_any is_unpacking (map dict_item_of (drop l.item-index l.items))
    ≡ list_any is_unpacking (map dict_item_of l.items)
