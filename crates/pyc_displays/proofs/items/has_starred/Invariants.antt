use Rattle.std.proofs.Common.{◌≡◌, map, drop}
use Rattle.std.specs.List.{list_any}
use Rattle.pyc_ast.specs.ExprView.{element_of}
use Rattle.pyc_displays.specs.Displays.{is_starred}
use Rattle.pyc_displays.proofs.items.has_starred.Given as goal

-- the items that are left decide
abbrev pub invariant-loop-item : goal.invariant-loop-item
invariant-loop-item l =
    list_any is_starred (map element_of (drop l.item-index l.items)) ≡ list_any is_starred (map element_of l.items)
