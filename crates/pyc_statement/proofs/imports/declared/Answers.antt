use Rattle.std.proofs.Common.{arith, rules}
use Rattle.std.proofs.lemmas.Grind.{common_steps}
use Rattle.pyc_tree.specs.SimpleStatements.{declared}
use Rattle.pyc_statement.proofs.imports.declared.Goals as goal

pub returns : goal.returns
unfolding declared
returns c = first_of (grind (arith, common_steps), search rules)

pub returns-in_err-names : goal.returns-in_err-names
unfolding declared
returns-in_err-names c = first_of (grind (arith, common_steps), search rules)

pub returns-in_err-word : goal.returns-in_err-word
unfolding declared
returns-in_err-word c = first_of (grind (arith, common_steps), search rules)
