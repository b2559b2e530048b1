use Rattle.std.proofs.Common.{arith, rules}
use Rattle.std.proofs.lemmas.Grind.{common_steps}
use Rattle.pyc_imports.proofs.imports.ImportReader.read_imported.Goals as goal

pub returns : goal.returns
returns g c = first_of (grind (arith, common_steps), search rules)

pub returns-in_err-module_path : goal.returns-in_err-module_path
returns-in_err-module_path g c = first_of (grind (arith, common_steps), search rules)

pub returns-in_err-shown : goal.returns-in_err-shown
returns-in_err-shown g c = first_of (grind (arith, common_steps), search rules)
