use Rattle.std.proofs.lemmas.Grind.{common_steps}
use Rattle.std.proofs.Common.{arith, rules}
use Rattle.pyc_members.proofs.declared_class.push_statement.Goals as goal

pub returns-in_err-declared_class-in-Class : goal.returns-in_err-declared_class-in-Class
returns-in_err-declared_class-in-Class c = first_of (grind (arith, common_steps), search rules)

pub returns-in_err-new-in-Class : goal.returns-in_err-new-in-Class
returns-in_err-new-in-Class c = first_of (grind (arith, common_steps), search rules)

pub returns-in_err-push-in-Class : goal.returns-in_err-push-in-Class
returns-in_err-push-in-Class c = first_of (grind (arith, common_steps), search rules)
