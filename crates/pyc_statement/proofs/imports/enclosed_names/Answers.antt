use Rattle.pyc_tree.specs.SimpleStatements.{enclosed_names}
use Rattle.std.proofs.lemmas.Grind.{common_steps}
use Rattle.std.proofs.Common.{arith, rules}
use Rattle.pyc_statement.proofs.imports.enclosed_names.Goals as goal

pub returns : goal.returns
unfolding enclosed_names
returns c = first_of (grind (arith, common_steps), search rules)

pub returns-in_err-closing : goal.returns-in_err-closing
unfolding enclosed_names
returns-in_err-closing c = first_of (grind (arith, common_steps), search rules)

pub returns-in_err-names : goal.returns-in_err-names
unfolding enclosed_names
returns-in_err-names c = first_of (grind (arith, common_steps), search rules)

pub returns-in_err-opening : goal.returns-in_err-opening
unfolding enclosed_names
returns-in_err-opening c = first_of (grind (arith, common_steps), search rules)
