use Rattle.std.proofs.Common.{rules, arith}
use Rattle.std.proofs.lemmas.Grind.{common_steps}
use Rattle.pyc_tree.specs.Headers.{async}
use Rattle.pyc_statement.proofs.rules.StatementRules.coroutine.Goals as goal

pub returns-in_err-word_async : goal.returns-in_err-word_async
unfolding async
returns-in_err-word_async g c = first_of (search rules, grind (arith, common_steps))

pub returns-in-Keyword-Def : goal.returns-in-Keyword-Def
unfolding async
returns-in-Keyword-Def g c = first_of (search rules, grind (arith, common_steps))

pub returns-in-Keyword-For : goal.returns-in-Keyword-For
unfolding async
returns-in-Keyword-For g c = first_of (search rules, grind (arith, common_steps))

pub returns-in-Keyword-With : goal.returns-in-Keyword-With
unfolding async
returns-in-Keyword-With g c = first_of (search rules, grind (arith, common_steps))

pub returns-in_default : goal.returns-in_default
unfolding async
returns-in_default g c = first_of (search rules, grind (arith, common_steps))
