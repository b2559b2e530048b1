use Rattle.pyc_units.proofs.Steps.{performing}
use Rattle.std.proofs.Common.{arith, rules}
use Rattle.pyc_units.proofs.header.report_cycle.Goals as goal

pub returns-in_default : goal.returns-in_default
returns-in_default g c = first_of (grind (arith, performing), search rules)

pub returns-in_default-2 : goal.returns-in_default-2
returns-in_default-2 g c = first_of (grind (arith, performing), search rules)

pub returns-in_err-text-in-Some-Cycle : goal.returns-in_err-text-in-Some-Cycle
returns-in_err-text-in-Some-Cycle g c = first_of (grind (arith, performing), search rules)

pub returns-in_ok-text-in-Some-Cycle : goal.returns-in_ok-text-in-Some-Cycle
returns-in_ok-text-in-Some-Cycle g c = first_of (grind (arith, performing), search rules)
