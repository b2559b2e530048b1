use Rattle.std.proofs.lemmas.Grind.{common_steps}
use Rattle.std.proofs.Common.{arith, rules}
use Rattle.pyc_statement.proofs.imports.path_after.Goals as goal

pub returns-in-len1-up-Keyword-Import : goal.returns-in-len1-up-Keyword-Import
returns-in-len1-up-Keyword-Import c = first_of (grind (arith, common_steps), search rules)

pub returns-in_err-path-in_default : goal.returns-in_err-path-in_default
returns-in_err-path-in_default c = first_of (grind (arith, common_steps), search rules)

pub returns-in_ok-path-in_default : goal.returns-in_ok-path-in_default
returns-in_ok-path-in_default c = first_of (grind (arith, common_steps), search rules)
