use Rattle.pyc_units.proofs.Steps.{performing}
use Rattle.std.proofs.Common.{arith, rules}
use Rattle.std.proofs.lemmas.Grind.{common_steps}
use Rattle.pyc_units.proofs.units.count_units.Goals as goal

pub returns-in-Fault : goal.returns-in-Fault
returns-in-Fault c = first_of (grind (arith, performing), search rules)

pub returns-in_err-unit_definitions-in-Tree : goal.returns-in_err-unit_definitions-in-Tree
returns-in_err-unit_definitions-in-Tree c = first_of (grind (arith, performing), search rules)

pub returns-in_ok-unit_definitions-in-Tree : goal.returns-in_ok-unit_definitions-in-Tree
returns-in_ok-unit_definitions-in-Tree c = first_of (grind (arith, common_steps, performing), search rules)
