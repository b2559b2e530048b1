use Rattle.std.proofs.Common.{sym, arith}
use Rattle.pyc_bindings.specs.BindingView.{binding_of}
use Rattle.pyc_interfaces.specs.SameInterfaces.{same_binding}
use Rattle.pyc_interfaces.proofs.SameRows.{other_rows}
use Rattle.pyc_interfaces.proofs.same_bindings.same_bindings.Goals as goal

pub returns-then-xs-ys : goal.returns-then-xs-ys
returns-then-xs-ys c = sym (other_rows same_binding binding_of c.args.xs.now c.args.ys.now (λ same. absurd (omega (arith, same))))
