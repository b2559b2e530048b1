use Rattle.std.proofs.Common.{◌≡◌, ◌++◌, drop, map}
use Rattle.pyc_type_forms.specs.TypeView.{ty_of}
use Rattle.pyc_type_forms.specs.Narrowing.{narrowed_items}
use Rattle.pyc_type_forms.proofs.narrowing.add_narrowed_by_each.Given as goal

-- what was added, with what the classes that are left leave, is the whole
abbrev pub invariant-loop-class : goal.invariant-loop-class
invariant-loop-class g l =
    let o = g.L.Lins.orders l.lins in
    map ty_of l.out.items ++ narrowed_items o (drop l.class-index l.classes) (ty_of l.item)
    ≡ map ty_of l.fn.out.items ++ narrowed_items o l.classes (ty_of l.item)
