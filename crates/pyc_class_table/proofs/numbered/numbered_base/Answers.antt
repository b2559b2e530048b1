use Rattle.std.proofs.Common.{arith, rules}
use Rattle.std.proofs.lemmas.Grind.{common_steps}
use Rattle.pyc_class_table.proofs.numbered.numbered_base.Goals as goal

pub returns-in-Class : goal.returns-in-Class
returns-in-Class c = first_of (grind (arith, common_steps), search rules)

pub returns-in-Unknown : goal.returns-in-Unknown
returns-in-Unknown c = first_of (grind (arith, common_steps), search rules)
