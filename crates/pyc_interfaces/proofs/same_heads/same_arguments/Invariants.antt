use Rattle.std.proofs.Common.{◌≡◌, drop, map}
use Rattle.std.specs.Cmp.Lexicographic.{pointwise}
use Rattle.pyc_ast.specs.ExprView.{argument_of}
use Rattle.pyc_interfaces.specs.SameExpressions.{same_argument}
use Rattle.pyc_interfaces.proofs.same_heads.same_arguments.Given as goal

-- those that are left decide
abbrev pub invariant-loop-i : goal.invariant-loop-i
invariant-loop-i l =
    pointwise same_argument (map argument_of (drop l.i l.xs)) (map argument_of (drop l.i l.ys)) ≡ pointwise same_argument (map argument_of l.xs) (map argument_of l.ys)
