use Rattle.std.proofs.Common.{arith, rules}
use Rattle.std.proofs.lemmas.Grind.{common_steps}
use Rattle.pyc_declarations.proofs.class_entries.written_base.Goals as goal

pub returns-in-Class : goal.returns-in-Class
returns-in-Class c = first_of (grind (arith, common_steps), search rules)

pub returns-in_default : goal.returns-in_default
returns-in_default c = first_of (grind (arith, common_steps), search rules)
