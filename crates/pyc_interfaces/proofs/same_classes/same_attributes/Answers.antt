use Rattle.std.proofs.Common.{sym, arith}
use Rattle.pyc_members.specs.AttributeView.{attribute_of}
use Rattle.pyc_interfaces.specs.SameInterfaces.{same_attribute}
use Rattle.pyc_interfaces.proofs.SameRows.{other_rows}
use Rattle.pyc_interfaces.proofs.same_classes.same_attributes.Goals as goal

pub returns-then-xs-ys : goal.returns-then-xs-ys
returns-then-xs-ys c = sym (other_rows same_attribute attribute_of c.args.xs.now c.args.ys.now (λ same. absurd (omega (arith, same))))
