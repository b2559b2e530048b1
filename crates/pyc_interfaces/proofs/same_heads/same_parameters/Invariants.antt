use Rattle.std.proofs.Common.{◌≡◌, drop, map}
use Rattle.std.specs.Cmp.Lexicographic.{pointwise}
use Rattle.pyc_ast.specs.StatementView.{parameter_of}
use Rattle.pyc_interfaces.specs.SameInterfaces.{same_parameter}
use Rattle.pyc_interfaces.proofs.same_heads.same_parameters.Given as goal

-- those that are left decide
abbrev pub invariant-loop-i : goal.invariant-loop-i
invariant-loop-i l =
    pointwise same_parameter (map parameter_of (drop l.i l.xs)) (map parameter_of (drop l.i l.ys)) ≡ pointwise same_parameter (map parameter_of l.xs) (map parameter_of l.ys)
