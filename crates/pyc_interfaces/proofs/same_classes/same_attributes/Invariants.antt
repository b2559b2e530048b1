use Rattle.std.proofs.Common.{◌≡◌, drop, map}
use Rattle.std.specs.Cmp.Lexicographic.{pointwise}
use Rattle.pyc_members.specs.AttributeView.{attribute_of}
use Rattle.pyc_interfaces.specs.SameInterfaces.{same_attribute}
use Rattle.pyc_interfaces.proofs.same_classes.same_attributes.Given as goal

-- those that are left decide
abbrev pub invariant-loop-i : goal.invariant-loop-i
invariant-loop-i l =
    pointwise same_attribute (map attribute_of (drop l.i l.xs)) (map attribute_of (drop l.i l.ys)) ≡ pointwise same_attribute (map attribute_of l.xs) (map attribute_of l.ys)
