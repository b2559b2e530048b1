use Rattle.std.proofs.Common.{arith, rules}
use Rattle.std.proofs.lemmas.Grind.{common_steps}
use Rattle.pyc_targets.proofs.name_targets.is_definition.Goals as goal

pub returns-in-Class : goal.returns-in-Class
returns-in-Class c = first_of (grind (arith, common_steps), search rules)

pub returns-in-Function : goal.returns-in-Function
returns-in-Function c = first_of (grind (arith, common_steps), search rules)

pub returns-in-Import : goal.returns-in-Import
returns-in-Import c = first_of (grind (arith, common_steps), search rules)

pub returns-in-ImportFirst : goal.returns-in-ImportFirst
returns-in-ImportFirst c = first_of (grind (arith, common_steps), search rules)

pub returns-in-ImportFrom : goal.returns-in-ImportFrom
returns-in-ImportFrom c = first_of (grind (arith, common_steps), search rules)

pub returns-in_default : goal.returns-in_default
returns-in_default c = first_of (grind (arith, common_steps), search rules)
