use Rattle.std.proofs.Common.{sym, arith}
use Rattle.pyc_ast.specs.StatementView.{parameter_of}
use Rattle.pyc_interfaces.specs.SameInterfaces.{same_parameter}
use Rattle.pyc_interfaces.proofs.SameRows.{other_rows}
use Rattle.pyc_interfaces.proofs.same_heads.same_parameters.Goals as goal

pub returns-then-xs-ys : goal.returns-then-xs-ys
returns-then-xs-ys c = sym (other_rows same_parameter parameter_of c.args.xs.now c.args.ys.now (λ same. absurd (omega (arith, same))))
