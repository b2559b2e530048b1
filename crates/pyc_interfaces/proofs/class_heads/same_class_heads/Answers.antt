use Rattle.std.proofs.Common.{sym, arith}
use Rattle.pyc_interfaces.proofs.SameRows.{other_rows}
use Rattle.pyc_interfaces.specs.ClassHeads.{same_class_head}
use Rattle.pyc_members.specs.DeclaredClassView.{declared_class_in}
use Rattle.pyc_interfaces.proofs.class_heads.same_class_heads.Goals as goal

pub returns-then-xs-ys : goal.returns-then-xs-ys
returns-then-xs-ys c = sym (other_rows same_class_head declared_class_in c.args.xs.now c.args.ys.now (λ same. absurd (omega (arith, same))))
