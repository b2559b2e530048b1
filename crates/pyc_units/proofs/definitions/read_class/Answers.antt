use Rattle.pyc_units.proofs.Steps.{performing}
use Rattle.std.proofs.Common.{arith, rules}
use Rattle.pyc_units.proofs.definitions.read_class.Goals as goal

pub returns : goal.returns
returns g c = first_of (grind (arith, performing), search rules)

pub returns-in_err-bases : goal.returns-in_err-bases
returns-in_err-bases g c = first_of (grind (arith, performing), search rules)

pub returns-then-declares_class : goal.returns-then-declares_class
returns-then-declares_class g c = first_of (grind (arith, performing), search rules)
