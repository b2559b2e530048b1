use Rattle.std.proofs.Common.{◌≡◌, ◌++◌, drop, map}
use Rattle.std.specs.List.{flat_map}
use Rattle.pyc_type_forms.specs.TypeView.{ty_of}
use Rattle.pyc_type_forms.specs.Unions.{items_of}
use Rattle.pyc_type_forms.specs.Narrowing.{narrowed_items}
use Rattle.pyc_type_forms.proofs.narrowing.narrow_to.Given as goal

-- what was added, with what the items that are left leave, is the whole
abbrev pub invariant-loop-item : goal.invariant-loop-item
invariant-loop-item g l =
    let o = g.L.Lins.orders l.lins in
    map ty_of l.left.items ++ flat_map (narrowed_items o l.classes) (map ty_of (drop l.item-index l.item-items))
    ≡ flat_map (narrowed_items o l.classes) (items_of (ty_of l.ty))
