use Rattle.pyc_annotations.proofs.Steps.{performing}
use Rattle.std.proofs.Common.{arith, rules}
use Rattle.pyc_annotations.proofs.class_bases.base_of_names.Goals as goal

pub returns-in_err-meaning : goal.returns-in_err-meaning
returns-in_err-meaning g c = first_of (grind (arith, performing), search rules)

pub returns-in_err-shown : goal.returns-in_err-shown
returns-in_err-shown g c = first_of (grind (arith, performing), search rules)

pub returns : goal.returns
returns g c = first_of (grind (arith, performing), search rules)
