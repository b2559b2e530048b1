use Rattle.std.proofs.Common.{◌≡◌, drop, map}
use Rattle.std.specs.Cmp.Lexicographic.{pointwise}
use Rattle.pyc_ast.specs.ExprView.{expr_of}
use Rattle.pyc_interfaces.specs.SameExpressions.{same_expr}
use Rattle.pyc_interfaces.proofs.same_heads.same_exprs.Given as goal

-- those that are left decide
abbrev pub invariant-loop-i : goal.invariant-loop-i
invariant-loop-i l =
    pointwise same_expr (map expr_of (drop l.i l.xs)) (map expr_of (drop l.i l.ys)) ≡ pointwise same_expr (map expr_of l.xs) (map expr_of l.ys)
