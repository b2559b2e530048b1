use Rattle.pyc_tree.specs.SimpleStatements.{import_from_statement}
use Rattle.std.proofs.lemmas.Grind.{common_steps}
use Rattle.std.proofs.Common.{arith, rules}
use Rattle.pyc_statement.proofs.imports.import_from_statement.Goals as goal

pub returns-else-same_kind : goal.returns-else-same_kind
unfolding import_from_statement
returns-else-same_kind c = first_of (grind (arith, common_steps), search rules)

pub returns-in_err-from : goal.returns-in_err-from
unfolding import_from_statement
returns-in_err-from c = first_of (grind (arith, common_steps), search rules)

pub returns-in_err-word : goal.returns-in_err-word
unfolding import_from_statement
returns-in_err-word c = first_of (grind (arith, common_steps), search rules)

pub returns-in_err-word_import : goal.returns-in_err-word_import
unfolding import_from_statement
returns-in_err-word_import c = first_of (grind (arith, common_steps), search rules)

pub returns-then-same_kind : goal.returns-then-same_kind
unfolding import_from_statement
returns-then-same_kind c = first_of (grind (arith, common_steps), search rules)
