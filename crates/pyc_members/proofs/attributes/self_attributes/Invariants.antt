use Rattle.std.proofs.Common.{◌≡◌, ◌++◌, map, flat_map, drop}
use Rattle.pyc_members.specs.Attributes.{method_attributes}
use Rattle.pyc_members.specs.AttributeView.{attribute_of}
use Rattle.pyc_members.specs.MethodView.{method_of}
use Rattle.pyc_members.proofs.attributes.self_attributes.Given as goal

-- the attributes so far, with those of the methods that are left, are all
abbrev pub invariant-loop-method : goal.invariant-loop-method
invariant-loop-method l =
    map attribute_of l.found.items ++ flat_map method_attributes (map method_of (drop l.method-index l.method-items))
    ≡ flat_map method_attributes (map method_of l.method-items)
