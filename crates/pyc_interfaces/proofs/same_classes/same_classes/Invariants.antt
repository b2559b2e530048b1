use Rattle.std.proofs.Common.{◌≡◌, drop, map}
use Rattle.std.specs.Cmp.Lexicographic.{pointwise}
use Rattle.pyc_members.specs.DeclaredClassView.{declared_class_in}
use Rattle.pyc_interfaces.specs.SameInterfaces.{same_declared}
use Rattle.pyc_interfaces.proofs.same_classes.same_classes.Given as goal

-- those that are left decide
abbrev pub invariant-loop-i : goal.invariant-loop-i
invariant-loop-i l =
    pointwise same_declared (map declared_class_in (drop l.i l.xs)) (map declared_class_in (drop l.i l.ys)) ≡ pointwise same_declared (map declared_class_in l.xs) (map declared_class_in l.ys)
