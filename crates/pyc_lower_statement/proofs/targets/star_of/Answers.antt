use Rattle.std.proofs.Common.{sym}
use Rattle.pyc_lower_atom.specs.OriginView.{origin_of}
use Rattle.pyc_lower_statement.proofs.TargetLemmas.{star_other}
use Rattle.pyc_lower_statement.proofs.targets.star_of.Goals as goal

pub returns-in_default : goal.returns-in_default
returns-in_default c = sym (star_other (origin_of c.args.origin) c.args.item.now c.in_default.not-Starred)
