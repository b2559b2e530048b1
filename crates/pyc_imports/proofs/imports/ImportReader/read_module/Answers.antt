use Rattle.std.proofs.Common.{arith, rules}
use Rattle.pyc_imports.proofs.Steps.{performing}
use Rattle.pyc_imports.proofs.imports.ImportReader.read_module.Goals as goal

pub returns : goal.returns
returns g c = first_of (grind (arith, performing), search rules)

pub returns-in_err-found : goal.returns-in_err-found
returns-in_err-found g c = first_of (grind (arith, performing), search rules)

pub returns-in_err-module_of_parts : goal.returns-in_err-module_of_parts
returns-in_err-module_of_parts g c = first_of (grind (arith, performing), search rules)

pub returns-in_err-shown : goal.returns-in_err-shown
returns-in_err-shown g c = first_of (grind (arith, performing), search rules)

pub returns-then-is_some : goal.returns-then-is_some
returns-then-is_some g c = first_of (grind (arith, performing), search rules)
