use Rattle.std.proofs.Common.{◌≡◌, ◌++◌, map, flat_map, drop}
use Rattle.pyc_bindings.specs.BindingView.{binding_of}
use Rattle.pyc_bindings.specs.ScopeView.{part_of}
use Rattle.pyc_members.specs.DeclaredClasses.{classes_of_part, first_place}
use Rattle.pyc_members.specs.DeclaredClassView.{declared_class_in}
use Rattle.pyc_members.proofs.declared_class.declared_classes.Given as goal

-- the classes so far, with those of the parts that are left, are all
abbrev pub invariant-loop-part : goal.invariant-loop-part
invariant-loop-part l =
    let each = classes_of_part (first_place (map binding_of l.bindings)) in
    map declared_class_in l.found.items ++ flat_map each (map part_of (drop l.part-index l.part-items))
    ≡ flat_map each (map part_of l.part-items)
