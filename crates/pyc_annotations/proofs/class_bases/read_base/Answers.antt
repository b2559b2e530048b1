use Rattle.pyc_annotations.specs.Bases.{base}
use Rattle.pyc_annotations.proofs.Steps.{performing}
use Rattle.std.proofs.Common.{arith, rules}
use Rattle.pyc_annotations.proofs.class_bases.read_base.Goals as goal

pub returns-in_err-names : goal.returns-in_err-names
unfolding base
returns-in_err-names g c = first_of (grind (arith, performing), search rules)
