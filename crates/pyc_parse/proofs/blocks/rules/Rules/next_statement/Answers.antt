use Rattle.pyc_parse.specs.Blocks.{next_statement}
use Rattle.std.proofs.lemmas.Grind.{common_steps}
use Rattle.std.proofs.Common.{arith, rules}
use Rattle.pyc_parse.proofs.blocks.rules.Rules.next_statement.Goals as goal

pub returns : goal.returns
unfolding next_statement
returns g c = first_of (grind (arith, common_steps), search rules)

pub returns-in-End : goal.returns-in-End
unfolding next_statement
returns-in-End g c = first_of (grind (arith, common_steps), search rules)

pub returns-in-Fault : goal.returns-in-Fault
unfolding next_statement
returns-in-Fault g c = first_of (grind (arith, common_steps), search rules)

pub returns-in_err-found-in-Decorator : goal.returns-in_err-found-in-Decorator
unfolding next_statement
returns-in_err-found-in-Decorator g c = first_of (grind (arith, common_steps), search rules)

pub returns-in_err-found-in-Definition : goal.returns-in_err-found-in-Definition
unfolding next_statement
returns-in_err-found-in-Definition g c = first_of (grind (arith, common_steps), search rules)

pub returns-in_err-found-in-Header : goal.returns-in_err-found-in-Header
unfolding next_statement
returns-in_err-found-in-Header g c = first_of (grind (arith, common_steps), search rules)

pub returns-in_err-found-in-Simple : goal.returns-in_err-found-in-Simple
unfolding next_statement
returns-in_err-found-in-Simple g c = first_of (grind (arith, common_steps), search rules)
