use Rattle.pyc_units.proofs.Steps.{performing}
use Rattle.std.proofs.Common.{arith, rules}
use Rattle.pyc_units.proofs.definitions.read_order.Goals as goal

pub returns : goal.returns
returns g c = first_of (grind (arith, performing), search rules)

pub returns-in-Mro : goal.returns-in-Mro
returns-in-Mro g c = first_of (grind (arith, performing), search rules)

pub returns-in_err-report_unknown-in-Mro : goal.returns-in_err-report_unknown-in-Mro
returns-in_err-report_unknown-in-Mro g c = first_of (grind (arith, performing), search rules)
