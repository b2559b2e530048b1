use Rattle.std.proofs.Math.Logic.{∥∥₁_elim}
use Rattle.std.proofs.Props.{props}
use Rattle.pyc_lower.proofs.ExpressionSet.{Expr-set}
use Rattle.pyc_lower.proofs.read_strings.ReadString.into_expr.Goals as goal

pub returns : goal.returns
returns g c = ∥∥₁_elim c.args.self.is_read (hlevel (props, Expr-set)) (λ same. same)
