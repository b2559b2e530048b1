use Rattle.std.proofs.Common.{◌≡◌, drop, map}
use Rattle.std.specs.Cmp.Lexicographic.{pointwise}
use Rattle.pyc_bindings.specs.BindingView.{binding_of}
use Rattle.pyc_interfaces.specs.SameInterfaces.{same_binding}
use Rattle.pyc_interfaces.proofs.same_bindings.same_bindings.Given as goal

-- those that are left decide
abbrev pub invariant-loop-i : goal.invariant-loop-i
invariant-loop-i l =
    pointwise same_binding (map binding_of (drop l.i l.xs)) (map binding_of (drop l.i l.ys)) ≡ pointwise same_binding (map binding_of l.xs) (map binding_of l.ys)
