use Rattle.std.proofs.Common.{arith, rules}
use Rattle.std.proofs.lemmas.Grind.{common_steps}
use Rattle.pyc_cursor.proofs.kinds.operator_right.Goals as goal

pub returns-in-Ampersand : goal.returns-in-Ampersand
returns-in-Ampersand c = first_of (grind (arith, common_steps), search rules)

pub returns-in-Bar : goal.returns-in-Bar
returns-in-Bar c = first_of (grind (arith, common_steps), search rules)

pub returns-in-Caret : goal.returns-in-Caret
returns-in-Caret c = first_of (grind (arith, common_steps), search rules)

pub returns-in-LeftShift : goal.returns-in-LeftShift
returns-in-LeftShift c = first_of (grind (arith, common_steps), search rules)

pub returns-in-Plus : goal.returns-in-Plus
returns-in-Plus c = first_of (grind (arith, common_steps), search rules)

pub returns-in-Star : goal.returns-in-Star
returns-in-Star c = first_of (grind (arith, common_steps), search rules)
