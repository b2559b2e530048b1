use Rattle.std.proofs.Common.{◌≡◌, drop, map}
use Rattle.std.specs.Cmp.Lexicographic.{pointwise}
use Rattle.pyc_interfaces.specs.ClassHeads.{same_class_head}
use Rattle.pyc_members.specs.DeclaredClassView.{declared_class_in}
use Rattle.pyc_interfaces.proofs.class_heads.same_class_heads.Given as goal

-- those that are left decide
abbrev pub invariant-loop-i : goal.invariant-loop-i
invariant-loop-i l =
    pointwise same_class_head (map declared_class_in (drop l.i l.xs)) (map declared_class_in (drop l.i l.ys)) ≡ pointwise same_class_head (map declared_class_in l.xs) (map declared_class_in l.ys)
