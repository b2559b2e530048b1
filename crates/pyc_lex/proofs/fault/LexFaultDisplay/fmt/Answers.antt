use Rattle.std.proofs.Common.{arith, rules}
use Rattle.std.proofs.lemmas.Grind.{common_steps}
use Rattle.pyc_lex.proofs.fault.LexFaultDisplay.fmt.Goals as goal

pub returns-in-BadCharacter : goal.returns-in-BadCharacter
returns-in-BadCharacter g c = first_of (grind (arith, common_steps), search rules)

pub returns-in-Bracket : goal.returns-in-Bracket
returns-in-Bracket g c = first_of (grind (arith, common_steps), search rules)

pub returns-in-Dedent : goal.returns-in-Dedent
returns-in-Dedent g c = first_of (grind (arith, common_steps), search rules)

pub returns-in-Deep : goal.returns-in-Deep
returns-in-Deep g c = first_of (grind (arith, common_steps), search rules)

pub returns-in-Memory : goal.returns-in-Memory
returns-in-Memory g c = first_of (grind (arith, common_steps), search rules)

pub returns-in-NotUtf8 : goal.returns-in-NotUtf8
returns-in-NotUtf8 g c = first_of (grind (arith, common_steps), search rules)

pub returns-in-OpenString : goal.returns-in-OpenString
returns-in-OpenString g c = first_of (grind (arith, common_steps), search rules)

pub returns-in-Tabs : goal.returns-in-Tabs
returns-in-Tabs g c = first_of (grind (arith, common_steps), search rules)
