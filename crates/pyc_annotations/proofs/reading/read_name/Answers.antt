use Rattle.pyc_annotations.specs.Annotations.{name_rule}
use Rattle.pyc_annotations.proofs.Steps.{performing}
use Rattle.std.proofs.Common.{arith, rules}
use Rattle.pyc_annotations.proofs.reading.read_name.Goals as goal

pub returns-in_err-meaning : goal.returns-in_err-meaning
unfolding name_rule
returns-in_err-meaning g c = first_of (grind (arith, performing), search rules)

pub returns : goal.returns
unfolding name_rule
returns g c = first_of (grind (arith, performing), search rules)
