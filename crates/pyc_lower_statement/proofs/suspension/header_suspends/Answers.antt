use Rattle.pyc_lower_statement.proofs.SuspensionLemmas.{suspensions}
use Rattle.std.proofs.Common.{arith, rules}
use Rattle.pyc_lower_statement.proofs.suspension.header_suspends.Goals as goal

pub returns-else-suspends : goal.returns-else-suspends
returns-else-suspends c = first_of (grind (arith, suspensions), search rules)

pub returns-in-Class : goal.returns-in-Class
returns-in-Class c = first_of (grind (arith, suspensions), search rules)

pub returns-in-ClassOf : goal.returns-in-ClassOf
returns-in-ClassOf c = first_of (grind (arith, suspensions), search rules)

pub returns-in-Condition : goal.returns-in-Condition
returns-in-Condition c = first_of (grind (arith, suspensions), search rules)

pub returns-in-Def : goal.returns-in-Def
returns-in-Def c = first_of (grind (arith, suspensions), search rules)

pub returns-in-Except : goal.returns-in-Except
returns-in-Except c = first_of (grind (arith, suspensions), search rules)

pub returns-in-ExceptOf : goal.returns-in-ExceptOf
returns-in-ExceptOf c = first_of (grind (arith, suspensions), search rules)

pub returns-in-With : goal.returns-in-With
returns-in-With c = first_of (grind (arith, suspensions), search rules)

pub returns-in-WithEnclosed : goal.returns-in-WithEnclosed
returns-in-WithEnclosed c = first_of (grind (arith, suspensions), search rules)

pub returns-in-Word : goal.returns-in-Word
returns-in-Word c = first_of (grind (arith, suspensions), search rules)

pub returns-then-suspends : goal.returns-then-suspends
returns-then-suspends c = first_of (grind (arith, suspensions), search rules)
