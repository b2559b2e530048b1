use Rattle.std.proofs.lemmas.Grind.{common_steps}
use Rattle.std.proofs.Common.{arith, rules}
use Rattle.pyc_bindings.proofs.bindings.push_statement.Goals as goal

pub returns-in_err-clone-in-Annotate : goal.returns-in_err-clone-in-Annotate
returns-in_err-clone-in-Annotate c = first_of (grind (arith, common_steps), search rules)

pub returns-in_err-clone-in-Class : goal.returns-in_err-clone-in-Class
returns-in_err-clone-in-Class c = first_of (grind (arith, common_steps), search rules)

pub returns-in_err-clone-in-Function : goal.returns-in_err-clone-in-Function
returns-in_err-clone-in-Function c = first_of (grind (arith, common_steps), search rules)
