use Rattle.pyc_units.proofs.Steps.{performing}
use Rattle.std.proofs.Common.{arith, rules}
use Rattle.pyc_units.proofs.header.read_cycle.Goals as goal

pub returns : goal.returns
returns g c = first_of (grind (arith, performing), search rules)

pub returns-in_err-found : goal.returns-in_err-found
returns-in_err-found g c = first_of (grind (arith, performing), search rules)

pub returns-in_err-module_path : goal.returns-in_err-module_path
returns-in_err-module_path g c = first_of (grind (arith, performing), search rules)

pub returns-in_err-name : goal.returns-in_err-name
returns-in_err-name g c = first_of (grind (arith, performing), search rules)

pub returns-then-is_some : goal.returns-then-is_some
returns-then-is_some g c = first_of (grind (arith, performing), search rules)
