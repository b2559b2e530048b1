use Rattle.std.proofs.Common.{arith, rules}
use Rattle.std.proofs.lemmas.Grind.{common_steps}
use Rattle.pyc_imports.proofs.imports.ImportReader.report_missing.Goals as goal

pub returns : goal.returns
returns g c = first_of (grind (arith, common_steps), search rules)

pub returns-in_err-text : goal.returns-in_err-text
returns-in_err-text g c = first_of (grind (arith, common_steps), search rules)
