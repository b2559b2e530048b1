use Rattle.std.proofs.Common.{◌≡◌, ◌++◌, map, drop}
use Rattle.std.specs.List.{flat_map}
use Rattle.pyc_displays.specs.Expecting.{if_of}
use Rattle.pyc_type_forms.specs.TypeView.{ty_of}
use Rattle.pyc_type_forms.specs.Unions.{items_of}
use Rattle.pyc_displays.proofs.expecting.only_of.Given as goal

-- what was found, with what there is among the items that are left, is the whole
abbrev pub invariant-loop-item : goal.invariant-loop-item
invariant-loop-item l =
    map ty_of l.found.items ++ flat_map (if_of l.kind) (map ty_of (drop l.item-index l.item-items))
    ≡ flat_map (if_of l.kind) (items_of (ty_of l.ty))
