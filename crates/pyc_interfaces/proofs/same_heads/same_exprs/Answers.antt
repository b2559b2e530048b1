use Rattle.std.proofs.Common.{sym, arith}
use Rattle.pyc_ast.specs.ExprView.{expr_of}
use Rattle.pyc_interfaces.specs.SameExpressions.{same_expr}
use Rattle.pyc_interfaces.proofs.SameRows.{other_rows}
use Rattle.pyc_interfaces.proofs.same_heads.same_exprs.Goals as goal

pub returns-then-xs-ys : goal.returns-then-xs-ys
returns-then-xs-ys c = sym (other_rows same_expr expr_of c.args.xs.now c.args.ys.now (λ same. absurd (omega (arith, same))))
