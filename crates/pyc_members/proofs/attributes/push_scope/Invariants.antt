use Rattle.std.proofs.Common.{◌≡◌, ◌++◌, map, flat_map, drop}
use Rattle.pyc_bindings.specs.ScopeView.{part_of}
use Rattle.pyc_members.specs.Attributes.{attributes_of_part}
use Rattle.pyc_members.specs.AttributeView.{attribute_of, receiver_of}
use Rattle.pyc_members.proofs.attributes.push_scope.Given as goal

-- the attributes so far, with those of the parts that are left, are all
abbrev pub invariant-loop-part : goal.invariant-loop-part
invariant-loop-part l =
    let each = attributes_of_part (receiver_of l.receiver) in
    map attribute_of l.found.items ++ flat_map each (map part_of (drop l.part-index l.part-items))
    ≡ map attribute_of l.fn.found.items ++ flat_map each (map part_of l.part-items)
