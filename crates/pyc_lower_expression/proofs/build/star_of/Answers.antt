use Rattle.pyc_lower_expression.proofs.OtherForms.{star_other}
use Rattle.pyc_lower_atom.specs.OriginView.{origin_of}
use Rattle.pyc_lower_expression.proofs.build.star_of.Goals as goal

pub returns-in_default : goal.returns-in_default
returns-in_default c = star_other (origin_of c.args.origin) c.args.item.now c.in_default.not-Starred
